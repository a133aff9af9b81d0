-- The whole leaf by the pen: what no entry tells is stored, the pen stores the entries' stretches, and zeros behind the records end it. Where the
-- entries come from is nothing to these laws.
-- Assumes nothing.
use mathlib.Core.Path.{◌≡◌, refl, sym, ap, ◌∙◌, subst}
use mathlib.Core.List.{List, [], ◌∷◌, ◌++◌}
use mathlib.Core.Bool.{Bool, true, false, cond}
use Prim.Native.Nat.{ℕ, ◌+◌, ◌-◌, ◌*◌, ◌≤◌}
use native.Mathlib.Omega.{arith}
use borrow.Author.Tests.{ne_eqb, eqb-true}
use lib.Dec.{eqb}
use lib.ListN.{length, take, replicate, length-append, length-replicate}
use Rattle.spans.specs.Span.{put}
use Rattle.spans.proofs.Put.{put_nil}
use Rattle.frames.specs.Layout.{box_len, slots_at, frame_len}
use Rattle.frames.specs.Limits.{max_entries}
use Rattle.build_sources.specs.Source.{Entry, olds, heads}
use Rattle.build_image.specs.declared.Call.{Call}
use Rattle.build_image.specs.Sizes.{pad, counted, room_of}
use Rattle.build_image.specs.Image.{remote_frames, starts, hist_addrs, remote_addrs, les, places, head_slots, head_recs, hints, Borders, leaf_size, leaf_room, cuts_of, leaf_frame, leaf_image}
use Rattle.build_image.proofs.Lengths.{frame-least}
use Rattle.build_image.proofs.Leaf.{length-history, length_head_slots, length_addrs, hist_addrs_few, remotes_kinds, remotes-counted, leaf_hints_fit, leaf_tail_fits, length-starts, length-hints, length_leaf_frame, length_leaf_image}
use Rattle.build_history.specs.Runs.{history_at}
use Rattle.build_heads.specs.Steps.{Long}
use Rattle.build_heads.specs.Located.{places_at}
use Rattle.build_heads.proofs.Locating.{first-places}
use Rattle.build_bounds.specs.declared.Boundaries.{Boundaries}
use Rattle.build_bounds.specs.Boundaries.{boundary_bytes, bounds_of, BothWithin}
use Rattle.build_bounds.proofs.Laws.{length_boundary}
use Rattle.build_totals.specs.declared.Totals.{Totals}
use Rattle.build_totals.specs.Totals.{totals_of}
use Rattle.build_pen.specs.declared.Nib.{Nib}
use Rattle.build_pen.specs.declared.Pen.{Pen}
use Rattle.build_pen.specs.Stretches.{Stretch, stretch, draws, Rising, Drawing}
use Rattle.build_pen.specs.Pens.{all_left, AllLaid}
use Rattle.build_pen.proofs.Cutting.{draw_begin}
use Rattle.build_pen.proofs.Later.{later}
use Rattle.build_pen.proofs.Olding.{none}
use Rattle.build_leaf.specs.declared.HintPlaces.{HintPlaces}
use Rattle.build_leaf.specs.declared.Opened.{Opened}
use Rattle.build_leaf.specs.Leaf.{Small, leaf_head, recs_at}
use Rattle.build_leaf.specs.Listed.{hint_places, fixed_on, Fixes, opened_at}
use Rattle.build_leaf.proofs.Frame.{length_leaf_head}
use Rattle.build_leaf.proofs.Whole.{Measured, measured, few-heads}
use Rattle.build_leaf.proofs.Pieces.{pieces, hint-left}

-- the frame in its pieces, by the totals
frame_open : (m : Call) (b : Borders) (first at remote : ℕ) (es : List Entry) (t : Totals) (e : Boundaries)
    → t.heads ≡ length (heads es)
    → t.olds ≡ length (olds es)
    → t.size ≡ leaf_size m b es
    → t.room ≡ leaf_room m es
    → e.lo.len ≡ length b.lo
    → e.hi.len ≡ length b.hi
    → e.prefix ≡ b.prefix
    → e.sibling.0 ≡ b.sibling
    → remote ≡ at + frame_len (t.size + t.room)
    → (rounding : ℕ)
    → rounding ≡ frame_len (t.size + t.room) - (box_len + (t.size + t.room))
    → leaf_frame m b first at es
    ≡ leaf_head m t e
    ++ (head_slots m.limit b.prefix (recs_at t e) es
    ++ (b.lo
    ++ (b.hi
    ++ (head_recs m.limit b.prefix remote (places m.limit first (cuts_of m es) (olds es)) es
    ++ (replicate (t.size - (recs_at t e + length (head_recs m.limit b.prefix remote (places m.limit first (cuts_of m es) (olds es)) es))) 0
    ++ (hints t.room (starts m.limit first (cuts_of m es) (olds es)) (hist_addrs m.limit first (cuts_of m es) (olds es) ++ remote_addrs m.limit remote (heads es)) ++ replicate rounding 0))))))
unfolding leaf_frame leaf_head pad
frame_open m b first at remote es t e e₁ e₂ e₃ e₄ e₅ e₆ e₇ e₈ e₉ rounding er = rw (er, e₉, e₁, e₂, e₃, e₄, e₅, e₆, e₇, e₈) refl

-- no room, no hints
room_by : (b : Bool) (p c : ℕ) → eqb (p + c) 0 ≡ b → cond b 0 (8 + 8 * p + 8 * c) ≡ 0 → p + c ≡ 0
room_by true p c e h = eqb-true (p + c) 0 e
room_by false p c e h = absurd (omega (arith, h))

no_room : (m : Call) (es : List Entry) → leaf_room m es ≡ 0 → length (cuts_of m es) + counted m.limit es ≡ 0
unfolding leaf_room room_of
no_room m es h = room_by (eqb (length (cuts_of m es) + counted m.limit es) 0) (length (cuts_of m es)) (counted m.limit es) refl h

module _ (es : List Entry) (a : List ℕ) (footing at : ℕ) (m : Call) (t : Totals) (lo hi : List ℕ) (e : Boundaries) (over : footing ≤ at) (sm : Small t e)
    (in₁ : BothWithin lo hi (take footing a) e) (long : Long e.prefix es) (few : length es ≤ max_entries)
    (te : t ≡ totals_of m (bounds_of lo hi (take footing a) e) at es) (en : t.end ≤ length a) where
  abbrev b : Borders
  b = bounds_of lo hi (take footing a) e

  abbrev image : List ℕ
  image = put a at (leaf_image m b at es)

  abbrev leaf : ℕ
  leaf = t.leaf

  ts : Measured m b at es t
  ts = measured m b at es t te

  sizes : t.size + t.room ≡ leaf_size m b es + leaf_room m es
  sizes = omega (arith, ts.size, ts.room)

  lo-long : e.lo.len ≡ length (boundary_bytes lo (take footing a) e.lo)
  lo-long = sym (length_boundary lo (take footing a) e.lo in₁.footing)

  hi-long : e.hi.len ≡ length (boundary_bytes hi (take footing a) e.hi)
  hi-long = sym (length_boundary hi (take footing a) e.hi in₁.high)

  abbrev hist : List ℕ
  hist = history_at m at (olds es)

  leaf_is : leaf ≡ at + length hist
  leaf_is = ts.leaf ∙ sym (length-history m (cuts_of m es) at (olds es))

  module _ (x : ℕ) (ex : x ≡ frame_len (t.size + t.room)) where
    abbrev remote : ℕ
    remote = leaf + x

    remote-fits : remote ≤ length a
    remote-fits = omega (arith, ts.end, ex, en)

    abbrev ps : List ℕ
    ps = starts m.limit at (cuts_of m es) (olds es)

    abbrev xs : List ℕ
    xs = hist_addrs m.limit at (cuts_of m es) (olds es)

    abbrev ys : List ℕ
    ys = remote_addrs m.limit remote (heads es)

    abbrev recs : List ℕ
    recs = head_recs m.limit e.prefix remote (places m.limit at (cuts_of m es) (olds es)) es

    recs_fit : recs_at t e + length recs ≤ t.size
    recs_fit = omega (arith, ts.size, ts.count, lo-long, hi-long, leaf_tail_fits m b remote (places m.limit at (cuts_of m es) (olds es)) es)

    ps_long : t.pages ≡ length ps
    ps_long = ts.pages ∙ sym (length-starts m.limit (cuts_of m es) at (olds es))

    remotes-long : t.remotes ≡ length (xs ++ ys)
    remotes-long =
        ts.remotes
        ∙ ap (λ (f : ℕ). length (xs ++ remote_addrs m.limit f (heads es))) (ap (λ (n : ℕ). n + frame_len (t.size + t.room)) (sym ts.leaf) ∙ ap (λ (n : ℕ). leaf + n) (sym ex))

    hints_fit : (t.room ≡ 0 → ⊥) → 8 + 8 * t.pages + 8 * t.remotes ≤ t.room
    hints_fit nz =
        omega (arith, leaf_hints_fit m es at remote (ap (λ (n : ℕ). eqb n 0) (sym ts.room) ∙ ne_eqb t.room 0 nz), ps_long, remotes-long, ts.room)

    no_hints : t.room ≡ 0 → (length ps ≡ 0) × (length (xs ++ ys) ≡ 0)
    no_hints z =
        let n = no_room m es (sym ts.room ∙ z) in (
          omega (arith, n, length-starts m.limit (cuts_of m es) at (olds es)),
          omega (
            arith,
            n,
            length-append xs ys,
            length_addrs m.limit (heads es) remote,
            hist_addrs_few m.limit (cuts_of m es) at (olds es),
            remotes_kinds m.limit es,
            remotes-counted m.limit es,
          ),
        )

    pub fixes : Fixes (length a) footing t e remote
    fixes =
        record {
          over = omega (arith, over, leaf_is);
          small = sm;
          count = omega (arith, ts.count, few-heads es, few);
          first = omega (arith, recs_fit);
          inside = omega (arith, ex, frame-least (t.size + t.room));
          end = remote-fits;
          hints = hints_fit;
          few = omega (arith, ts.aged, remotes-long, length-append xs ys);
        }

    abbrev slots : List ℕ
    slots = head_slots m.limit e.prefix (recs_at t e) es

    abbrev s : ℕ
    s = leaf + slots_at

    abbrev rec : ℕ
    rec = s + 4 * t.heads + e.lo.len + e.hi.len

    abbrev q : ℕ
    q = leaf + (box_len + t.size)

    abbrev tail : List ℕ
    tail = replicate (t.size - (recs_at t e + length recs)) 0

    abbrev hs : List ℕ
    hs = hints t.room ps (xs ++ ys)

    abbrev rounding : ℕ
    rounding = remote - (q + t.room)

    opened : leaf_image m b at es ≡ hist ++ (leaf_frame m b at leaf es ++ remote_frames m (heads es))
    unfolding leaf_image
    opened = ap (λ (n : ℕ). hist ++ (leaf_frame m b at n es ++ remote_frames m (heads es))) (sym ts.leaf)

    frame_is : leaf_frame m b at leaf es ≡ leaf_head m t e ++ (slots ++ (b.lo ++ (b.hi ++ (recs ++ (tail ++ (hs ++ replicate rounding 0))))))
    frame_is =
        frame_open m b at leaf remote es t e ts.count ts.olds ts.size ts.room lo-long hi-long refl refl (ap (λ (n : ℕ). leaf + n) ex) rounding (omega (arith, ex))

    begin : Drawing a footing image a (stretch at (hist ++ (leaf_frame m b at leaf es ++ remote_frames m (heads es))) ∷ []) (length a)
    begin =
        subst (λ (z : List ℕ). Drawing a footing image a (stretch at z ∷ []) (length a)) opened
        (draw_begin a footing at (leaf_image m b at es) over (omega (arith, length_leaf_image m b at es, ts.end, ts.leaf, ap (λ (n : ℕ). frame_len n) sizes, en)))

    abbrev drawn_so_far : List ℕ
    drawn_so_far = put (put (put (put a leaf (leaf_head m t e)) (s + 4 * t.heads) b.lo) (s + 4 * t.heads + e.lo.len) b.hi) (q + t.room) (replicate rounding 0)

    cuts : Drawing a footing image drawn_so_far (stretch at hist ∷ stretch s slots ∷ stretch rec recs ∷ stretch (rec + length recs) tail ∷ stretch q hs ∷ stretch remote (remote_frames m (heads es)) ∷ []) (length a)
    cuts =
        pieces a footing image hist (leaf_head m t e) slots b.lo b.hi recs tail hs (replicate rounding 0) (remote_frames m (heads es)) (leaf_frame m b at leaf es)
        at leaf s (s + 4 * t.heads) (s + 4 * t.heads + e.lo.len) rec (rec + length recs) q (q + t.room) remote (length a) begin frame_is
        leaf_is (omega (arith, length_leaf_head m t e)) (omega (arith, length_head_slots m.limit e.prefix es (recs_at t e), ts.count)) (omega (arith, lo-long)) (omega (arith, hi-long)) refl
        (omega (arith, recs_fit, length-replicate {A = ℕ} (t.size - (recs_at t e + length recs)) 0))
        (omega (arith, hints-long)) (omega (arith, ex, length_leaf_frame m b at leaf es, ap (λ (n : ℕ). frame_len n) sizes))
      where
        hints-long : length (hints t.room ps (xs ++ ys)) ≡ t.room
        hints-long = length-hints t.room ps (xs ++ ys) (λ f. omega (arith, hints_fit (λ z. no_zero t.room f z), ps_long, remotes-long))
          where
            no_zero : (n : ℕ) → eqb n 0 ≡ false → n ≡ 0 → ⊥
            no_zero n f z = let w : ◌≡◌ {A = Bool} true false = sym (ap (λ (k : ℕ). eqb k 0) z) ∙ f in let y : ◌≡◌ {A = ℕ} 0 1 = cc in omega arith

    module _ (k : HintPlaces) (ek : k ≡ hint_places t.room q t.pages t.aged) (a₁ : List ℕ)
        (e₁ : a₁ ≡ fixed_on m t e remote (boundary_bytes lo (take footing a) e.lo) (boundary_bytes hi (take footing a) e.hi) a) where
      left : Drawing a footing image a₁
          (stretch at hist ∷ stretch s slots ∷ stretch rec recs ∷ stretch (rec + length recs) tail ∷ stretch k.pages (les 8 ps) ∷ stretch k.olds (les 8 xs) ∷ stretch k.heads (les 8 ys) ∷ stretch remote (remote_frames m (heads es)) ∷ [])
          (length a)
      left =
          hint-left a footing image drawn_so_far (stretch at hist) (stretch s slots) (stretch rec recs) (stretch (rec + length recs) tail) (stretch remote (remote_frames m (heads es))) q t.room t.pages t.remotes t.aged (length a) ps xs ys
          ps_long remotes-long ts.aged no_hints hints_fit cuts k ek a₁ e₁

      pub opened-same : take footing a₁ ≡ take footing a
      opened-same = left.same

      -- the pen at its begin
      abbrev start : Pen
      start = (opened_at at t e remote k).pen

      abbrev first : Nib
      first = (opened_at at t e remote k).nib

      abbrev base : ℕ
      base = leaf + box_len

      places_is : places_at m.limit m.budget start.loc (olds es) ≡ places m.limit at (cuts_of m es) (olds es)
      places_is = first-places m.limit m.budget at (olds es)

      no_addrs : remote_addrs m.limit at [] ≡ []
      unfolding remote_addrs
      no_addrs = refl

      off_is : rec - base ≡ recs_at t e
      off_is = omega arith

      -- what the pen is to store
      abbrev stretches : List Stretch
      stretches = stretch at hist ∷ stretch s slots ∷ stretch rec recs ∷ stretch k.pages (les 8 ps) ∷ stretch k.olds (les 8 xs) ∷ stretch k.heads (les 8 ys) ∷ stretch remote (remote_frames m (heads es)) ∷ []

      all-is : all_left m start first k.heads base e.prefix es ≡ stretch at [] ∷ stretch at [] ∷ stretch at [] ∷ stretches
      all-is =
          let z = none m (at - (0 + box_len)) at [] refl in
          rw (z.0, z.1.0, z.1.1, no_addrs, places_is, off_is) refl

      -- what the pen asks, with any mark below the leaf
      module _ (low : ℕ) (lw : low ≤ footing) where
        thin_out : Rising footing (stretch at hist ∷ stretch s slots ∷ stretch rec recs ∷ stretch (rec + length recs) tail ∷ stretch k.pages (les 8 ps) ∷ stretch k.olds (les 8 xs) ∷ stretch k.heads (les 8 ys) ∷ stretch remote (remote_frames m (heads es)) ∷ []) (length a)
            → length a ≤ length a₁ → Rising low (stretch at [] ∷ stretch at [] ∷ stretch at [] ∷ stretches) (length a₁)
        thin_out (i₀, (i₁, (i₂, (i₃, (i₄, (i₅, (i₆, (i₇, i₈)))))))) h =
            (omega (arith, lw, over), (omega arith, (omega arith, (omega arith, (i₁, (i₂, (omega (arith, i₃, i₄), (i₅, (i₆, (i₇, omega (arith, i₈, h)))))))))))

        pub pen_asks : (o : Opened) → o ≡ opened_at at t e remote k → AllLaid low (length a₁) o.pen o.nib o.hint base m e.prefix es
        pen_asks o eo =
            rw eo
            (record {
              order = subst (λ (ss : List Stretch). Rising low ss (length a₁)) (sym all-is) (thin_out left.order left.room);
              steady = record { above = λ z. absurd (omega (arith, z)); small = λ z. absurd (omega (arith, z)); slots = omega arith };
              above = omega arith;
              small = rw places_is (omega (arith, recs_fit, sm.size));
              keys = long;
              few = few;
            })

      -- the pen's stores behind it: z is where the records end
      module _ (o : Opened) (eo : o ≡ opened_at at t e remote k) (z : ℕ) (a₂ : List ℕ)
          (ez : z ≡ o.nib.rec + length (head_recs m.limit e.prefix o.nib.remote (places_at m.limit m.budget o.pen.loc (olds es)) es))
          (e₂ : a₂ ≡ draws a₁ (all_left m o.pen o.nib o.hint base e.prefix es)) where
        z_is : z ≡ rec + length recs
        z_is = ez ∙ rw (eo, places_is) refl

        pub tail_fits : (z ≤ q) × (q ≤ length a)
        tail_fits = (omega (arith, z_is, recs_fit), omega (arith, fixes.inside, remote-fits))

        drawn-is : a₂ ≡ draws a₁ stretches
        drawn-is = e₂ ∙ ap (λ (p : Opened). draws a₁ (all_left m p.pen p.nib p.hint base e.prefix es)) eo ∙ ap (draws a₁) all-is ∙ ap (λ (w : List ℕ). draws w stretches) (put_nil (put (put a₁ at []) at []) at ∙ put_nil (put a₁ at []) at ∙ put_nil a₁ at)

        pub tail_room : length a₂ ≡ length a → z + (q - z) ≤ length a₂
        tail_room n = omega (arith, n, tail_fits.0, tail_fits.1)

        pub leaf_done : (a₃ : List ℕ) → a₃ ≡ put a₂ z (replicate (q - z) 0) → (leaf ≡ t.leaf) × (a₃ ≡ image)
        leaf_done a₃ e₃ =
            let n : q - z ≡ t.size - (recs_at t e + length recs) = omega (arith, z_is, recs_fit) in (
              refl,
              e₃ ∙ ap (λ (w : ℕ). put a₂ z (replicate w 0)) n ∙ ap (λ (w : ℕ). put a₂ w tail) z_is ∙ ap (λ (w : List ℕ). put w (rec + length recs) tail) drawn-is
                  ∙ later footing a₁ (stretch at hist ∷ stretch s slots ∷ stretch rec recs ∷ []) (rec + length recs) tail
                  (stretch k.pages (les 8 ps) ∷ stretch k.olds (les 8 xs) ∷ stretch k.heads (les 8 ys) ∷ stretch remote (remote_frames m (heads es)) ∷ []) (length a) left.order
                  ∙ left.goes,
            )

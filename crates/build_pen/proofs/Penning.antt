-- All entries at the pen: a head is opened, its old versions are passed, then it is written. Where the entries come from is nothing to these laws:
-- they are given what is left.
-- Assumes nothing.
use mathlib.Core.Path.{◌≡◌, refl, sym, ap, ◌∙◌, subst}
use mathlib.Core.List.{List, [], ◌∷◌, ◌++◌, append-nil}
use mathlib.Core.Bool.{Bool, true, false, cond}
use Prim.Native.Nat.{ℕ, zero, suc, ◌+◌, ◌-◌, ◌≤◌}
use native.Mathlib.Nat.{add-zero}
use native.Mathlib.Omega.{arith}
use borrow.Author.Tests.{eqb-true}
use lib.Dec.{eqb}
use lib.ListN.{length, take, drop, length-append}
use Rattle.spans.specs.Span.{put}
use Rattle.numbers.specs.Number.{le}
use Rattle.frames.specs.Layout.{box_len}
use Rattle.frames.specs.Limits.{max_entries}
use Rattle.values.specs.declared.HistRef.{HistRef}
use Rattle.values.specs.Vals.{hist_of, hist_bytes, flag_of, front_bytes, inline_bytes, remote_bytes, size_of}
use Rattle.build_paging.specs.Cuts.{cuts_from}
use Rattle.build_sources.specs.Source.{Entry, only, olds, heads}
use Rattle.build_image.specs.declared.Call.{Call}
use Rattle.build_image.specs.Sizes.{remote_len, key_len, old_run, costs_of}
use Rattle.build_image.specs.Image.{PageSlot, ref_of, any, val_bytes, remote_frame_of, remote_frames, remote_addrs, head_rec, head_recs, head_slots, history, starts, hist_addrs, les}
use Rattle.build_image.proofs.Lengths.{length-remote_of}
use Rattle.build_image.proofs.Leaf.{length_head}
use Rattle.build_history.specs.Runs.{history_at}
use Rattle.build_history.proofs.Passes.{take_nil}
use Rattle.build_heads.specs.Steps.{Long}
use Rattle.build_heads.specs.Located.{places_at}
use Rattle.build_pen.specs.declared.Nib.{Nib}
use Rattle.build_pen.specs.declared.Pen.{Pen}
use Rattle.build_pen.specs.Stretches.{Stretch, stretch, draws, Rising, Drawing}
use Rattle.build_pen.specs.Nibs.{Asks, Above, drawn, nib_past, hint_for, olds_left}
use Rattle.build_pen.specs.Pens.{starts_at, addrs_at, pens_left, Steady, ref_from, RanPast, heads_mid, heads_tail, all_left, AllLaid}
use Rattle.build_pen.proofs.Drawn.{drew, drew-room}
use Rattle.build_pen.proofs.Cutting.{gone, thinned, rising_up}
use Rattle.build_pen.proofs.Nibbing.{nib_asks, nib_above, nib_turn}
use Rattle.build_pen.proofs.Olding.{none}
use Rattle.build_pen.proofs.Running.{hint_step}

-- ---- one head of each

module _ (e : Entry) (es : List Entry) (new : e.old ≡ false) where
  slots_head : (limit p off : ℕ) → head_slots limit p off (e ∷ es) ≡ le 4 off ++ head_slots limit p (off + (key_len p (length e.key) + size_of (any (old_run es)) limit (length e.val))) es
  unfolding head_slots
  slots_head limit p off = rw new refl

  recs_head : (limit p remote : ℕ) (ps : List PageSlot) → head_recs limit p remote ps (e ∷ es) ≡ head_rec limit p remote (ref_of ps (old_run es)) e ++ head_recs limit p (remote + remote_len limit (length e.val) e.kept) ps es
  unfolding head_recs
  recs_head limit p remote ps = rw new refl

  frames_head : (m : Call) → remote_frames m (heads (e ∷ es)) ≡ remote_frame_of m e ++ remote_frames m (heads es)
  unfolding only remote_frames
  frames_head m = rw new refl

  heads_head : heads (e ∷ es) ≡ e ∷ heads es
  unfolding only
  heads_head = rw new refl

  olds_head : olds (e ∷ es) ≡ olds es
  unfolding only
  olds_head = rw new refl

-- a head's reference, once all its old versions are passed
zero_ref : (limit p remote : ℕ) (ps : List PageSlot) (x y : ℕ) (e : Entry) → head_rec limit p remote (ref_of ps 0) e ≡ head_rec limit p remote (hist_of x y 0) e
unfolding head_rec val_bytes inline_bytes remote_bytes front_bytes hist_bytes flag_of
zero_ref limit p remote [] x y e = refl
zero_ref limit p remote (q ∷ ps) x y e = refl

ref_by : (t : Bool) (limit p remote : ℕ) (ps : List PageSlot) (run page slot : ℕ) (e : Entry) → eqb run 0 ≡ t
    → head_rec limit p remote (cond t (ref_of ps 0) (hist_of page slot (run + 0))) e ≡ head_rec limit p remote (hist_of page slot run) e
ref_by true limit p remote ps run page slot e h =
    let z : run ≡ 0 = eqb-true run 0 h in
    zero_ref limit p remote ps page slot e ∙ ap (λ (k : ℕ). head_rec limit p remote (hist_of page slot k) e) (sym z)
ref_by false limit p remote ps run page slot e h = ap (λ (k : ℕ). head_rec limit p remote (hist_of page slot k) e) (add-zero run)

-- ---- nothing is left

drop_nil : (k : ℕ) (xs : List Entry) → xs ≡ [] → drop k xs ≡ []
drop_nil zero xs e = e
drop_nil (suc k) xs e = rw e refl

olds_nil : (xs : List Entry) → xs ≡ [] → olds xs ≡ []
unfolding only
olds_nil xs e = rw e refl

hist_none : (m : Call) (to : ℕ) (os : List Entry) → os ≡ [] → history_at m to os ≡ []
unfolding history cuts_from costs_of
hist_none m to os e = rw e refl

starts_none : (m : Call) (to : ℕ) (os : List Entry) → os ≡ [] → les 8 (starts_at m to os) ≡ []
unfolding starts cuts_from costs_of les
starts_none m to os e = rw e refl

addrs_none : (m : Call) (remote to : ℕ) (es os : List Entry) → es ≡ [] → os ≡ [] → les 8 (remote_addrs m.limit remote es ++ addrs_at m to os) ≡ []
unfolding hist_addrs remote_addrs cuts_from costs_of les
addrs_none m remote to es os e f = rw (e, f) refl

heads_none : (m : Call) (p off remote : ℕ) (ps : List PageSlot) (es : List Entry) → es ≡ []
    → (head_slots m.limit p off es ≡ []) × ((head_recs m.limit p remote ps es ≡ []) × ((remote_frames m (heads es) ≡ []) × (les 8 (remote_addrs m.limit remote (heads es)) ≡ [])))
unfolding head_slots head_recs remote_frames only remote_addrs les
heads_none m p off remote ps es e = rw e (refl, (refl, (refl, refl)))

-- ---- the loop

-- es is what is left
pub record Penning (low : ℕ) (a₀ whole : List ℕ) (m : Call) (base p end fin : ℕ) (a : List ℕ) (es : List Entry) (q : Pen) (n : Nib) (hint : ℕ) : Type 0 where
  pub drawing : Drawing a₀ low whole a (all_left m q n hint base p es) end
  pub steady : Steady m q (olds es)
  pub above : base ≤ n.rec
  pub last : n.rec + length (head_recs m.limit p n.remote (places_at m.limit m.budget q.loc (olds es)) es) ≡ fin
  pub small : fin ≤ base + 4294967295
  pub keys : Long p es
  pub few : length es ≤ max_entries

pub all_begin : (low : ℕ) (a : List ℕ) (m : Call) (base p : ℕ) (es : List Entry) (q : Pen) (n : Nib) (hint : ℕ) → AllLaid low (length a) q n hint base m p es
    → Penning low a (draws a (all_left m q n hint base p es)) m base p (length a)
    (n.rec + length (head_recs m.limit p n.remote (places_at m.limit m.budget q.loc (olds es)) es)) a es q n hint
all_begin low a m base p es q n hint h =
    record {
      drawing = record { goes = refl; order = h.order; room = omega arith; long = refl; same = refl };
      steady = h.steady;
      above = h.above;
      last = refl;
      small = h.small;
      keys = h.keys;
      few = h.few;
    }

module _ (low : ℕ) (a₀ whole : List ℕ) (m : Call) (base p end fin : ℕ) (a : List ℕ) (xs : List Entry) (q : Pen) (n : Nib) (hint : ℕ) (h : Penning low a₀ whole m base p end fin a xs q n hint) where
  pub all_end : xs ≡ [] → (n.rec ≡ fin) × (a ≡ whole)
  all_end z =
      let os = olds xs in
      let oz : olds xs ≡ [] = olds_nil xs z in
      let tz = take_nil q.loc.left os oz in
      let dz = drop_nil q.loc.left os oz in
      let x = none m (q.nib.rec - (q.loc.page + box_len)) q.nib.remote (take q.loc.left os) tz in
      let y = heads_none m p (n.rec - base) n.remote (places_at m.limit m.budget q.loc os) xs z in
      let d₁ = gone a₀ low whole a [] q.nib.slot _ _ end h.drawing x.0 in
      let d₂ = gone a₀ low whole a [] q.nib.rec _ _ end d₁ x.1.0 in
      let d₃ = gone a₀ low whole a [] q.nib.remote _ _ end d₂ x.1.1 in
      let d₄ = gone a₀ low whole a [] q.loc.next _ _ end d₃ (hist_none m q.loc.next (drop q.loc.left os) dz) in
      let d₅ = gone a₀ low whole a [] n.slot _ _ end d₄ y.0 in
      let d₆ = gone a₀ low whole a [] n.rec _ _ end d₅ y.1.0 in
      let d₇ = gone a₀ low whole a [] q.pages _ _ end d₆ (starts_none m q.loc.next (drop q.loc.left os) dz) in
      let d₈ = gone a₀ low whole a [] q.hint _ _ end d₇ (addrs_none m q.nib.remote q.loc.next (take q.loc.left os) (drop q.loc.left os) tz dz) in
      let d₉ = gone a₀ low whole a [] hint _ _ end d₈ y.1.1.1 in
      (omega (arith, h.last, ap length y.1.0), (gone a₀ low whole a [] n.remote _ [] end d₉ y.1.1.0).goes)

  -- a head
  module _ (e : Entry) (es : List Entry) (xs_is : xs ≡ e ∷ es) (new : e.old ≡ false) where
    os_is : olds xs ≡ olds es
    os_is = ap olds xs_is ∙ olds_head e es new

    abbrev ps : List PageSlot
    ps = places_at m.limit m.budget q.loc (olds es)

    keys : Long p (e ∷ es)
    keys = subst (λ (ys : List Entry). Long p ys) xs_is h.keys

    pub head_key_lem : p ≤ length e.key
    head_key_lem = keys.0

    abbrev next : ℕ
    next = n.remote + remote_len m.limit (length e.val) e.kept

    abbrev beyond : ℕ
    beyond = n.remote + length (remote_frame_of m e)

    abbrev off : ℕ
    off = n.rec - base + (key_len p (length e.key) + size_of (any (old_run es)) m.limit (length e.val))

    next-is : next ≡ beyond
    next-is = ap (λ (k : ℕ). n.remote + k) (sym (length-remote_of m e))

    recs-is : head_recs m.limit p n.remote (places_at m.limit m.budget q.loc (olds xs)) xs
        ≡ head_rec m.limit p n.remote (ref_of ps (old_run es)) e ++ head_recs m.limit p beyond ps es
    recs-is =
        ap (λ (os : List Entry). head_recs m.limit p n.remote (places_at m.limit m.budget q.loc os) xs) os_is
        ∙ ap (head_recs m.limit p n.remote ps) xs_is
        ∙ recs_head e es new m.limit p n.remote ps
        ∙ ap (λ (k : ℕ). head_rec m.limit p n.remote (ref_of ps (old_run es)) e ++ head_recs m.limit p k ps es) next-is

    slots-is : head_slots m.limit p (n.rec - base) xs ≡ le 4 (n.rec - base) ++ head_slots m.limit p off es
    slots-is = ap (head_slots m.limit p (n.rec - base)) xs_is ∙ slots_head e es new m.limit p (n.rec - base)

    frames_is : remote_frames m (heads xs) ≡ remote_frame_of m e ++ remote_frames m (heads es)
    frames_is = ap (λ (ys : List Entry). remote_frames m (heads ys)) xs_is ∙ frames_head e es new m

    hints-is : les 8 (remote_addrs m.limit n.remote (heads xs)) ≡ hint_for m.limit n.remote e ++ les 8 (remote_addrs m.limit beyond (heads es))
    hints-is =
        ap (λ (ys : List Entry). les 8 (remote_addrs m.limit n.remote ys)) (ap heads xs_is ∙ heads_head e es new)
        ∙ ap (les 8) (sym (append-nil (remote_addrs m.limit n.remote (e ∷ heads es))))
        ∙ hint_step m n.remote e (heads es) []
        ∙ ap (λ (ys : List ℕ). hint_for m.limit n.remote e ++ les 8 ys) (append-nil (remote_addrs m.limit beyond (heads es)))

    -- the four stretches of heads, opened
    abbrev mid : List ℕ → List ℕ → List Stretch
    mid x y = stretch n.slot x ∷ stretch n.rec y ∷ []

    abbrev tail : List ℕ → List ℕ → List Stretch
    tail x y = stretch hint x ∷ stretch n.remote y ∷ []

    d0 : Drawing a₀ low whole a
        (pens_left m q (olds es) (mid (le 4 (n.rec - base) ++ head_slots m.limit p off es) (head_rec m.limit p n.remote (ref_of ps (old_run es)) e ++ head_recs m.limit p beyond ps es)) (tail (hint_for m.limit n.remote e ++ les 8 (remote_addrs m.limit beyond (heads es))) (remote_frame_of m e ++ remote_frames m (heads es)))) end
    d0 =
        subst (λ (x : List ℕ). Drawing a₀ low whole a (pens_left m q (olds es) (mid (le 4 (n.rec - base) ++ head_slots m.limit p off es) (head_rec m.limit p n.remote (ref_of ps (old_run es)) e ++ head_recs m.limit p beyond ps es)) (tail (hint_for m.limit n.remote e ++ les 8 (remote_addrs m.limit beyond (heads es))) x)) end) frames_is
        (subst (λ (x : List ℕ). Drawing a₀ low whole a (pens_left m q (olds es) (mid (le 4 (n.rec - base) ++ head_slots m.limit p off es) (head_rec m.limit p n.remote (ref_of ps (old_run es)) e ++ head_recs m.limit p beyond ps es)) (tail x (remote_frames m (heads xs)))) end) hints-is
        (subst (λ (x : List ℕ). Drawing a₀ low whole a (pens_left m q (olds es) (mid (le 4 (n.rec - base) ++ head_slots m.limit p off es) x) (heads_tail m n hint xs)) end) recs-is
        (subst (λ (x : List ℕ). Drawing a₀ low whole a (pens_left m q (olds es) (mid x (head_recs m.limit p n.remote (places_at m.limit m.budget q.loc (olds xs)) xs)) (heads_tail m n hint xs)) end) slots-is
        (subst (λ (os : List Entry). Drawing a₀ low whole a (pens_left m q os (heads_mid m n base p (places_at m.limit m.budget q.loc (olds xs)) xs) (heads_tail m n hint xs)) end) os_is h.drawing))))

    pub run-steady : Steady m q (olds es)
    run-steady = subst (λ (os : List Entry). Steady m q os) os_is h.steady

    -- the old versions' stretches alone
    abbrev four : List Stretch
    four = olds_left m q.nib (q.loc.page + box_len) (take q.loc.left (olds es)) (stretch q.loc.next (history_at m q.loc.next (drop q.loc.left (olds es))) ∷ [])

    pub run-order : Rising low (pens_left m q (olds es) [] []) (length a)
    run-order =
        rising_up low (pens_left m q (olds es) [] []) end (length a) d0.room
        (thinned low four (stretch n.slot (le 4 (n.rec - base) ++ head_slots m.limit p off es)) (stretch n.rec (head_rec m.limit p n.remote (ref_of ps (old_run es)) e ++ head_recs m.limit p beyond ps es))
        (stretch q.pages (les 8 (starts_at m q.loc.next (drop q.loc.left (olds es)))))
        (stretch q.hint (les 8 (remote_addrs m.limit q.nib.remote (take q.loc.left (olds es)) ++ addrs_at m q.loc.next (drop q.loc.left (olds es)))))
        (stretch hint (hint_for m.limit n.remote e ++ les 8 (remote_addrs m.limit beyond (heads es)))) (stretch n.remote (remote_frame_of m e ++ remote_frames m (heads es))) end d0.order)

    pub run-few : length es ≤ max_entries
    run-few = omega (arith, h.few, ap length xs_is)

    module _ (a₁ : List ℕ) (es' : List Entry) (r : Pen) (run page slot : ℕ) (rn : RanPast low m es a q a₁ es' r run page slot) where
      pub ran-place : (slot ≤ max_entries) × (run ≤ max_entries)
      ran-place = (rn.place, omega (arith, rn.passed.few, run-few))

      abbrev ps' : List PageSlot
      ps' = places_at m.limit m.budget r.loc (olds es')

      abbrev ref : HistRef
      ref = hist_of page slot run

      run_is : old_run es ≡ run
      run_is = omega (arith, rn.passed.count, rn.ended)

      ref-is : head_rec m.limit p n.remote (ref_of ps (old_run es)) e ≡ head_rec m.limit p n.remote ref e
      ref-is =
          ap (λ (x : HistRef). head_rec m.limit p n.remote x e) (rn.passed.ref ∙ ap (ref_from run page slot ps') rn.ended)
          ∙ ref_by (eqb run 0) m.limit p n.remote ps' run page slot e refl

      abbrev rec : Entry → List ℕ
      rec = head_rec m.limit p n.remote ref

      d1 : Drawing a₀ low whole a₁
          (pens_left m r (olds es') (mid (le 4 (n.rec - base) ++ head_slots m.limit p off es) (head_rec m.limit p n.remote (ref_of ps (old_run es)) e ++ head_recs m.limit p beyond ps es)) (tail (hint_for m.limit n.remote e ++ les 8 (remote_addrs m.limit beyond (heads es))) (remote_frame_of m e ++ remote_frames m (heads es)))) end
      d1 =
          let x =
          rn.drew (mid (le 4 (n.rec - base) ++ head_slots m.limit p off es) (head_rec m.limit p n.remote (ref_of ps (old_run es)) e ++ head_recs m.limit p beyond ps es))
          (tail (hint_for m.limit n.remote e ++ les 8 (remote_addrs m.limit beyond (heads es))) (remote_frame_of m e ++ remote_frames m (heads es))) end d0.room d0.order in
          record { goes = x.goes ∙ d0.goes; order = x.order; room = x.room; long = x.long ∙ d0.long; same = x.same ∙ d0.same }

      d2 : Drawing a₀ low whole a₁
          (pens_left m r (olds es') (mid (le 4 (n.rec - base) ++ head_slots m.limit p off es') (rec e ++ head_recs m.limit p beyond ps' es')) (tail (hint_for m.limit n.remote e ++ les 8 (remote_addrs m.limit beyond (heads es'))) (remote_frame_of m e ++ remote_frames m (heads es')))) end
      d2 = rw (rn.passed.slots p off, rn.passed.recs p beyond, rn.passed.firsts, ref-is) at d1

      long : n.rec + length (rec e) + length (head_recs m.limit p beyond ps' es') ≡ fin
      long =
          omega (
            arith,
            h.last,
            ap length (recs-is ∙ ap (λ (x : List ℕ). x ++ head_recs m.limit p beyond ps es) ref-is ∙ ap (λ (x : List ℕ). rec e ++ x) (rn.passed.recs p beyond)),
            length-append (rec e) (head_recs m.limit p beyond ps' es'),
          )

      -- the hint
      abbrev eight : List Stretch
      eight = pens_left m r (olds es') (mid (le 4 (n.rec - base) ++ head_slots m.limit p off es') (rec e ++ head_recs m.limit p beyond ps' es')) []

      module _ (w : List ℕ) (ew : w ≡ hint_for m.limit n.remote e) where
        hints-on : hint_for m.limit n.remote e ++ les 8 (remote_addrs m.limit beyond (heads es')) ≡ w ++ les 8 (remote_addrs m.limit beyond (heads es'))
        hints-on = ap (λ (x : List ℕ). x ++ les 8 (remote_addrs m.limit beyond (heads es'))) (sym ew)

        pub head_hint : hint + length w ≤ length a₁
        head_hint = drew-room a₀ low whole a₁ eight hint _ w _ _ end d2 hints-on

        module _ (a₂ : List ℕ) (g : ℕ) (eg : g ≡ hint + length w) (e₂ : a₂ ≡ put a₁ hint w) where
          -- the stretches in front of a head's, and those between its record and its remote frame
          abbrev fore : List Stretch
          fore = olds_left m r.nib (r.loc.page + box_len) (take r.loc.left (olds es')) (stretch r.loc.next (history_at m r.loc.next (drop r.loc.left (olds es'))) ∷ [])

          abbrev between : List Stretch
          between =
              stretch r.pages (les 8 (starts_at m r.loc.next (drop r.loc.left (olds es'))))
              ∷ stretch r.hint (les 8 (remote_addrs m.limit r.nib.remote (take r.loc.left (olds es')) ++ addrs_at m r.loc.next (drop r.loc.left (olds es'))))
              ∷ stretch g (les 8 (remote_addrs m.limit beyond (heads es')))
              ∷ []

          d3 : Drawing a₀ low whole a₂ (fore ++ stretch n.slot (le 4 (n.rec - base) ++ head_slots m.limit p off es') ∷ stretch n.rec (rec e ++ head_recs m.limit p beyond ps' es') ∷ (between ++ stretch n.remote (remote_frame_of m e ++ remote_frames m (heads es')) ∷ [])) end
          d3 = drew a₀ low whole a₁ eight hint _ w (les 8 (remote_addrs m.limit beyond (heads es'))) _ end a₂ g d2 hints-on e₂ eg

          -- what lies below is as it was
          pub head_same : take low a₂ ≡ take low a₀
          head_same = d3.same

          pub head_asks : Asks (length a₂) n base m rec e
          head_asks = nib_asks a₀ low whole a₂ fore between [] end n base m rec e _ _ _ d3 h.above (omega (arith, long, h.small, h.above))

          pub head_above : Above low n
          head_above = nib_above a₀ low whole a₂ fore between [] end n base m rec e _ _ _ d3

          module _ (a₃ : List ℕ) (n' : Nib) (en : n' ≡ nib_past m n rec e) (ea : a₃ ≡ drawn m n base rec e a₂) where
            off_is : off ≡ n.rec + length (rec e) - base
            off_is =
                let x : off ≡ n.rec - base + (key_len p (length e.key) + size_of (any run) m.limit (length e.val)) = ap (λ (k : ℕ). n.rec - base + (key_len p (length e.key) + size_of (any k) m.limit (length e.val))) run_is in
                omega (arith, x, h.above, length_head m.limit p n.remote ref e)

            past : Penning low a₀ whole m base p end fin a₃ es' r (nib_past m n rec e) g
            past =
                record {
                  drawing = subst (λ (k : ℕ). Drawing a₀ low whole a₃ (fore ++ stretch (n.slot + 4) (head_slots m.limit p k es') ∷ stretch (n.rec + length (rec e)) (head_recs m.limit p beyond ps' es') ∷ (between ++ stretch beyond (remote_frames m (heads es')) ∷ [])) end) off_is (nib_turn a₀ low whole a₂ fore between [] end n base m rec e _ _ _ d3 a₃ ea);
                  steady = rn.steady;
                  above = omega (arith, h.above);
                  last = long;
                  small = h.small;
                  keys = rn.passed.keys p keys.1;
                  few = omega (arith, rn.passed.few, run-few);
                }

            pub all_turn : Penning low a₀ whole m base p end fin a₃ es' r n' g
            all_turn = subst (λ (x : Nib). Penning low a₀ whole m base p end fin a₃ es' r x g) (sym en) past

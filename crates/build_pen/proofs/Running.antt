-- A run of old versions at the pen, one by one; what it passes is nothing to the heads but their reference. Where the entries come from is nothing
-- to these laws: they are given what is left.
-- Assumes nothing.
use mathlib.Core.Path.{◌≡◌, refl, sym, ap, ◌∙◌, subst}
use mathlib.Core.List.{List, [], ◌∷◌, ◌++◌, append_assoc}
use mathlib.Core.Bool.{Bool, true, false, cond}
use Prim.Native.Nat.{ℕ, zero, suc, ◌+◌, ◌-◌, ◌≤◌, ◌<◌}
use native.Mathlib.Numerals.{sub-one}
use native.Mathlib.Omega.{arith}
use borrow.Author.Tests.{eqb-true, ne_eqb}
use lib.Dec.{eqb, ltb}
use lib.ListN.{length, take, drop}
use Rattle.spans.specs.Span.{put}
use Rattle.frames.specs.Layout.{box_len}
use Rattle.frames.specs.Limits.{max_entries}
use Rattle.values.specs.Vals.{hist_of}
use Rattle.build_sources.specs.Source.{Entry, only, olds, heads}
use Rattle.build_image.specs.declared.Call.{Call}
use Rattle.build_image.specs.Sizes.{remote_len, old_run}
use Rattle.build_image.specs.Image.{PageSlot, ref_of, remote_addrs, remote_frame_of, les, head_slots, head_recs, old_rec}
use Rattle.build_image.proofs.Lengths.{length-remote_of}
use Rattle.build_history.specs.Runs.{history_at}
use Rattle.build_history.proofs.Passes.{take_cons}
use Rattle.build_heads.specs.declared.Loc.{Loc}
use Rattle.build_heads.specs.Located.{places_at, Settled, onward_of}
use Rattle.build_heads.proofs.Locating.{at_hand, some_left}
use Rattle.build_pen.specs.declared.Nib.{Nib}
use Rattle.build_pen.specs.declared.Pen.{Pen}
use Rattle.build_pen.specs.Stretches.{Stretch, stretch, draws, Rising, Drawing}
use Rattle.build_pen.specs.Nibs.{Asks, Above, drawn, nib_past, hint_of, hint_for, olds_left}
use Rattle.build_pen.specs.Pens.{Drew, starts_at, addrs_at, pens_left, Steady, Turned, ref_from, Passed, RanPast}
use Rattle.build_pen.proofs.Drawn.{drew, drew-room}
use Rattle.build_pen.proofs.Olding.{Olding, olds_asks, olds-above, olds_turn}
use Rattle.build_pen.proofs.Turning.{drew_none}

-- one function's stores, then another's
pub drew-then : (low : ℕ) (a : List ℕ) (f : List Stretch → List Stretch → List Stretch) (a₁ : List ℕ) (f₁ : List Stretch → List Stretch → List Stretch) (a₂ : List ℕ) (f₂ : List Stretch → List Stretch → List Stretch)
    → Drew low a f a₁ f₁ → Drew low a₁ f₁ a₂ f₂ → Drew low a f a₂ f₂
drew-then low a f a₁ f₁ a₂ f₂ x y mid tail end l o =
    let d = x mid tail end l o in
    let e = y mid tail end d.room d.order in
    record { goes = e.goes ∙ d.goes; order = e.order; room = e.room; long = e.long ∙ d.long; same = e.same ∙ d.same }

drop_past : (k : ℕ) (x : Entry) (xs : List Entry) → 0 < k → drop k (x ∷ xs) ≡ drop (k - 1) xs
drop_past zero x xs h = absurd (omega arith)
drop_past (suc k) x xs h = rw sub-one refl

-- ---- what is passed

first_by : (t : Bool) (run page slot : ℕ) (pl : PageSlot) (ps : List PageSlot) (k : ℕ) → eqb run 0 ≡ t
    → cond t (ref_of (pl ∷ ps) (suc k)) (hist_of page slot (run + suc k)) ≡ hist_of (cond t pl.page page) (cond t pl.slot slot) (run + 1 + k)
first_by true run page slot pl ps k e = let z : run ≡ 0 = eqb-true run 0 e in let n : suc k ≡ run + 1 + k = omega arith in ap (hist_of pl.page pl.slot) n
first_by false run page slot pl ps k e = let n : run + suc k ≡ run + 1 + k = omega arith in ap (hist_of page slot) n

ref_step : (run page slot : ℕ) (pl : PageSlot) (ps : List PageSlot) (k : ℕ) → ref_from run page slot (pl ∷ ps) (suc k) ≡ ref_from (run + 1) (cond (eqb run 0) pl.page page) (cond (eqb run 0) pl.slot slot) ps k
ref_step run page slot pl ps k = first_by (eqb run 0) run page slot pl ps k refl ∙ sym (rw (ne_eqb (run + 1) 0 (λ z. omega (arith, z))) refl)

module _ (e : Entry) (es : List Entry) (old : e.old ≡ true) where
  slots-old : (limit p off : ℕ) → head_slots limit p off (e ∷ es) ≡ head_slots limit p off es
  unfolding head_slots
  slots-old limit p off = rw old refl

  recs-old : (limit p remote : ℕ) (ps : List PageSlot) → head_recs limit p remote ps (e ∷ es) ≡ head_recs limit p remote (drop 1 ps) es
  unfolding head_recs
  recs-old limit p remote ps = rw old refl

  heads-old : heads (e ∷ es) ≡ heads es
  unfolding only
  heads-old = rw old refl

  pub olds_cons : olds (e ∷ es) ≡ e ∷ olds es
  unfolding only
  olds_cons = rw old refl

  run-old : old_run (e ∷ es) ≡ suc (old_run es)
  unfolding old_run
  run-old = rw old refl

pub passed_none : (limit budget : ℕ) (loc : Loc) (es : List Entry) → Passed limit budget loc es loc es 0 0 0
passed_none limit budget loc es =
    record { slots = λ p off. refl; recs = λ p remote. refl; firsts = refl; count = omega arith; ref = refl; keys = λ p k. k; few = omega arith }

passed_on : (limit budget : ℕ) (loc₀ : Loc) (es₀ : List Entry) (loc : Loc) (e : Entry) (es : List Entry) (run page slot : ℕ) (r : Loc) → e.old ≡ true
    → Passed limit budget loc₀ es₀ loc (e ∷ es) run page slot → Settled limit budget (olds (e ∷ es)) true loc r
    → Passed limit budget loc₀ es₀ (onward_of true r) es (run + 1) (cond (eqb run 0) r.page page) (cond (eqb run 0) r.slot slot)
passed_on limit budget loc₀ es₀ loc e es run page slot r old h s =
    let s₁ : Settled limit budget (e ∷ olds es) true loc r = subst (λ (os : List Entry). Settled limit budget os true loc r) (olds_cons e es old) s in
    let hand : places_at limit budget loc (olds (e ∷ es)) ≡ record { page = r.page; slot = r.slot } ∷ places_at limit budget (onward_of true r) (olds es) =
    ap (places_at limit budget loc) (olds_cons e es old) ∙ sym s₁.same ∙ at_hand limit budget e (olds es) r (some_left limit budget e (olds es) true loc r s₁ refl) in
    record {
      slots = λ p off. h.slots p off ∙ slots-old e es old limit p off;
      recs = λ p remote. h.recs p remote ∙ recs-old e es old limit p remote (places_at limit budget loc (olds (e ∷ es))) ∙ ap (λ (ps : List PageSlot). head_recs limit p remote (drop 1 ps) es) hand;
      firsts = h.firsts ∙ heads-old e es old;
      count = omega (arith, h.count, run-old e es old);
      ref =
          h.ref ∙ ap (λ (ps : List PageSlot). ref_from run page slot ps (old_run (e ∷ es))) hand
          ∙ ap (ref_from run page slot (record { page = r.page; slot = r.slot } ∷ places_at limit budget (onward_of true r) (olds es))) (run-old e es old)
          ∙ ref_step run page slot (record { page = r.page; slot = r.slot }) (places_at limit budget (onward_of true r) (olds es)) (old_run es);
      keys = λ p k. (h.keys p k).1;
      few = omega (arith, h.few);
    }

-- ---- one entry's hint

module _ (m : Call) (remote : ℕ) (e : Entry) (es : List Entry) (ys : List ℕ) where
  -- where the next entry's remote frame stands
  abbrev beyond : ℕ
  beyond = remote + remote_len m.limit (length e.val) e.kept

  hint-at : (b : Bool) → ltb (length e.val) m.limit ≡ b → les 8 (remote_addrs m.limit remote (e ∷ es) ++ ys) ≡ hint_for m.limit remote e ++ les 8 (remote_addrs m.limit beyond es ++ ys)
  unfolding remote_addrs hint_of les remote_len
  hint-at true q = let z : remote ≡ remote + 0 = omega arith in rw q (ap (λ (k : ℕ). les 8 (remote_addrs m.limit k es ++ ys)) z)
  hint-at false q = rw q refl

  pub hint_step : les 8 (remote_addrs m.limit remote (e ∷ es) ++ ys) ≡ hint_for m.limit remote e ++ les 8 (remote_addrs m.limit (remote + length (remote_frame_of m e)) es ++ ys)
  hint_step = hint-at (ltb (length e.val) m.limit) refl ∙ ap (λ (k : ℕ). hint_for m.limit remote e ++ les 8 (remote_addrs m.limit (remote + k) es ++ ys)) (sym (length-remote_of m e))

-- ---- the run

-- es is what is left of es₀
pub record Running (low : ℕ) (m : Call) (a₀ : List ℕ) (es₀ : List Entry) (q₀ : Pen) (a : List ℕ) (es : List Entry) (q : Pen) (run page slot : ℕ) : Type 0 where
  pub drew : Drew low a₀ (pens_left m q₀ (olds es₀)) a (pens_left m q (olds es))
  pub passed : Passed m.limit m.budget q₀.loc es₀ q.loc es run page slot
  pub steady : Steady m q (olds es)
  pub order : Rising low (pens_left m q₀ (olds es₀) [] []) (length a₀)
  pub few : length es₀ ≤ max_entries
  pub place : slot ≤ max_entries

least : (t : Bool) (x y : ℕ) → x ≤ max_entries → y ≤ max_entries → cond t x y ≤ max_entries
least true x y h k = h
least false x y h k = k

pub run_begin : (low : ℕ) (m : Call) (a : List ℕ) (es : List Entry) (q : Pen) → Steady m q (olds es) → Rising low (pens_left m q (olds es) [] []) (length a) → length es ≤ max_entries → Running low m a es q a es q 0 0 0
run_begin low m a es q s o f =
    record {
      drew = drew_none low a (pens_left m q (olds es));
      passed = passed_none m.limit m.budget q.loc es;
      steady = s;
      order = o;
      few = f;
      place = omega arith;
    }

module _ (low : ℕ) (m : Call) (a₀ : List ℕ) (es₀ : List Entry) (q₀ : Pen) (a : List ℕ) (xs : List Entry) (q : Pen) (run page slot : ℕ) (h : Running low m a₀ es₀ q₀ a xs q run page slot) where
  abbrev f₀ : List Stretch → List Stretch → List Stretch
  f₀ = pens_left m q₀ (olds es₀)

  run_now : Drawing a₀ low (draws a₀ (f₀ [] [])) a (pens_left m q (olds xs) [] []) (length a₀)
  run_now = h.drew [] [] (length a₀) (omega arith) h.order

  pub run_long : length a ≡ length a₀
  run_long = run_now.long

  -- what lies below is as it was, now and (`turned_same`, `hinted_same`) on the way to the next
  pub run-same : take low a ≡ take low a₀
  run-same = run_now.same

  pub turn_asks : Rising low (pens_left m q (olds xs) [] []) (length a)
  turn_asks = rw run_now.long run_now.order

  -- no more old versions stand in front
  pub run_done : old_run xs ≡ 0 → RanPast low m es₀ a₀ q₀ a xs q run page slot
  run_done z = record { drew = h.drew; passed = h.passed; steady = h.steady; ended = z; place = h.place }

  -- one more
  module _ (e : Entry) (es : List Entry) (xs_is : xs ≡ e ∷ es) (old : e.old ≡ true) (a₁ : List ℕ) (r : Pen) (tn : Turned low m (olds xs) a q a₁ r) where
    os_is : olds xs ≡ e ∷ olds es
    os_is = ap olds xs_is ∙ olds_cons e es old

    t₂ : Turned low m (e ∷ olds es) a q a₁ r
    t₂ = subst (λ (os : List Entry). Turned low m os a q a₁ r) os_is tn

    d₁ : Drew low a₀ f₀ a₁ (pens_left m r (e ∷ olds es))
    d₁ = drew-then low a₀ f₀ a _ a₁ _ (subst (λ (os : List Entry). Drew low a₀ f₀ a (pens_left m q os)) os_is h.drew) t₂.drew

    pub run-left : 0 < r.loc.left
    run-left = some_left m.limit m.budget e (olds es) true q.loc r.loc t₂.settled refl

    pub run-slot : r.loc.slot + r.loc.left ≤ max_entries
    run-slot = t₂.steady.slots

    pub run-count : run < max_entries
    run-count = omega (arith, h.passed.few, h.few, ap length xs_is)

    abbrev rest : List Entry
    rest = take (r.loc.left - 1) (olds es)

    abbrev later : List Entry
    later = drop (r.loc.left - 1) (olds es)

    abbrev base : ℕ
    base = r.loc.page + box_len

    took : take r.loc.left (e ∷ olds es) ≡ e ∷ rest
    took = take_cons r.loc.left e (olds es) (e ∷ olds es) refl run-left

    -- in front of this old version
    abbrev fore : List Stretch → List Stretch
    fore mid = olds_left m r.nib base (e ∷ rest) (stretch r.loc.next (history_at m r.loc.next later) ∷ (mid ++ stretch r.pages (les 8 (starts_at m r.loc.next later)) ∷ []))

    join : (mid : List Stretch) (s : Stretch) (tail : List Stretch) → fore mid ++ s ∷ tail ≡ olds_left m r.nib base (e ∷ rest) (stretch r.loc.next (history_at m r.loc.next later) ∷ (mid ++ stretch r.pages (les 8 (starts_at m r.loc.next later)) ∷ s ∷ tail))
    join mid s tail =
        ap (λ (x : List Stretch). olds_left m r.nib base (e ∷ rest) (stretch r.loc.next (history_at m r.loc.next later) ∷ x)) (append_assoc mid (stretch r.pages (les 8 (starts_at m r.loc.next later)) ∷ []) (s ∷ tail))

    abbrev addrs : List ℕ
    addrs = addrs_at m r.loc.next later

    abbrev left : List ℕ
    left = les 8 (remote_addrs m.limit (r.nib.remote + length (remote_frame_of m e)) rest ++ addrs)

    d₂ : (mid tail : List Stretch) (end : ℕ) → end ≤ length a₀ → Rising low (f₀ mid tail) end
        → Drawing a₀ low (draws a₀ (f₀ mid tail)) a₁ (fore mid ++ stretch r.hint (les 8 (remote_addrs m.limit r.nib.remote (e ∷ rest) ++ addrs)) ∷ tail) end
    d₂ mid tail end n o =
        subst (λ (ss : List Stretch). Drawing a₀ low (draws a₀ (f₀ mid tail)) a₁ ss end) (sym (join mid _ tail))
        (rw (took, drop_past r.loc.left e (olds es) run-left) at (d₁ mid tail end n o))

    pub turned_same : take low a₁ ≡ take low a₀
    turned_same = (d₂ [] [] (length a₀) (omega arith) h.order).same

    module _ (w : List ℕ) (ew : w ≡ hint_for m.limit r.nib.remote e) where
      hints : les 8 (remote_addrs m.limit r.nib.remote (e ∷ rest) ++ addrs) ≡ w ++ left
      hints = hint_step m r.nib.remote e rest addrs ∙ ap (λ (x : List ℕ). x ++ left) (sym ew)

      pub run-hint : r.hint + length w ≤ length a₁
      run-hint = drew-room a₀ low _ a₁ (fore []) r.hint _ w left [] (length a₀) (d₂ [] [] (length a₀) (omega arith) h.order) hints

      module _ (a₂ : List ℕ) (g : ℕ) (eg : g ≡ r.hint + length w) (e₂ : a₂ ≡ put a₁ r.hint w) where
        abbrev behind : List Stretch → List Stretch → List Stretch
        behind mid tail = stretch r.loc.next (history_at m r.loc.next later) ∷ (mid ++ stretch r.pages (les 8 (starts_at m r.loc.next later)) ∷ stretch g left ∷ tail)

        olding : (mid tail : List Stretch) (end : ℕ) → end ≤ length a₀ → Rising low (f₀ mid tail) end → Olding a₀ low (draws a₀ (f₀ mid tail)) m base (behind mid tail) end a₂ r.nib (e ∷ rest)
        olding mid tail end n o =
            record {
              drawing =
                  subst (λ (ss : List Stretch). Drawing a₀ low (draws a₀ (f₀ mid tail)) a₂ ss end) (join mid _ tail)
                  (drew a₀ low (draws a₀ (f₀ mid tail)) a₁ (fore mid) r.hint _ w left tail end a₂ g (d₂ mid tail end n o) hints e₂ eg);
              above = t₂.steady.above run-left;
              small = rw took at (t₂.steady.small run-left);
            }

        pub hinted_same : take low a₂ ≡ take low a₀
        hinted_same = (olding [] [] (length a₀) (omega arith) h.order).drawing.same

        pub run_asks : Asks (length a₂) r.nib base m (old_rec m.limit r.nib.remote) e
        run_asks = olds_asks a₀ low (draws a₀ (f₀ [] [])) m base (behind [] []) (length a₀) a₂ r.nib e rest (olding [] [] (length a₀) (omega arith) h.order)

        pub run-above : Above low r.nib
        run-above = olds-above a₀ low (draws a₀ (f₀ [] [])) m base (behind [] []) (length a₀) a₂ r.nib e rest (olding [] [] (length a₀) (omega arith) h.order)

        pub run-page : r.loc.page + box_len ≤ length a₀
        run-page = omega (arith, t₂.steady.above run-left, run_asks.rec-room, (olding [] [] (length a₀) (omega arith) h.order).drawing.long)

        module _ (a₃ : List ℕ) (n : Nib) (en : n ≡ nib_past m r.nib (old_rec m.limit r.nib.remote) e) (ea : a₃ ≡ drawn m r.nib base (old_rec m.limit r.nib.remote) e a₂)
            (x y : ℕ) (ex : x ≡ cond (eqb run 0) r.loc.page page) (ey : y ≡ cond (eqb run 0) r.loc.slot slot) where
          abbrev new : Pen
          new = record { loc = record { page = r.loc.page; slot = r.loc.slot + 1; left = r.loc.left - 1; next = r.loc.next }; nib = n; pages = r.pages; hint = g }

          after : (mid tail : List Stretch) (end : ℕ) → end ≤ length a₀ → Rising low (f₀ mid tail) end → Olding a₀ low (draws a₀ (f₀ mid tail)) m base (behind mid tail) end a₃ n rest
          after mid tail end k o = olds_turn a₀ low (draws a₀ (f₀ mid tail)) m base (behind mid tail) end a₂ r.nib e rest (olding mid tail end k o) a₃ n en ea

          remote-is : r.nib.remote + length (remote_frame_of m e) ≡ n.remote
          remote-is = ap (λ (k : Nib). k.remote) (sym en)

          pub run_turn : Running low m a₀ es₀ q₀ a₃ es new (run + 1) x y
          run_turn =
              let o = after [] [] (length a₀) (omega arith) h.order in
              let p₁ : Passed m.limit m.budget q₀.loc es₀ q.loc (e ∷ es) run page slot =
              subst (λ (ys : List Entry). Passed m.limit m.budget q₀.loc es₀ q.loc ys run page slot) xs_is h.passed in
              let s₁ : Settled m.limit m.budget (olds (e ∷ es)) true q.loc r.loc =
              subst (λ (ys : List Entry). Settled m.limit m.budget (olds ys) true q.loc r.loc) xs_is tn.settled in
              let p₂ = passed_on m.limit m.budget q₀.loc es₀ q.loc e es run page slot r.loc old p₁ s₁ in
              record {
                drew =
                    λ mid tail end k w.
                    subst (λ (u : ℕ). Drawing a₀ low (draws a₀ (f₀ mid tail)) a₃ (olds_left m n base rest (stretch r.loc.next (history_at m r.loc.next later) ∷ (mid ++ stretch r.pages (les 8 (starts_at m r.loc.next later)) ∷ stretch g (les 8 (remote_addrs m.limit u rest ++ addrs)) ∷ tail))) end) remote-is (after mid tail end k w).drawing;
                passed =
                    subst (λ (u : ℕ). Passed m.limit m.budget q₀.loc es₀ (onward_of true r.loc) es (run + 1) u y) (sym ex)
                    (subst (λ (v : ℕ). Passed m.limit m.budget q₀.loc es₀ (onward_of true r.loc) es (run + 1) (cond (eqb run 0) r.loc.page page) v) (sym ey) p₂);
                steady = record { above = λ _. o.above; small = λ _. o.small; slots = omega (arith, t₂.steady.slots, run-left) };
                order = h.order;
                few = h.few;
                place = omega (arith, ey, least (eqb run 0) r.loc.slot slot (omega (arith, t₂.steady.slots)) h.place);
              }

-- The loop over a run of old versions: finishing from here gives the page that the run fills.
-- Assumes nothing.
use Prim.Native.Nat.{ℕ, ◌+◌, ◌-◌, ◌≤◌, ◌<◌}
use mathlib.Core.Path.{◌≡◌, refl, sym, ap, ◌∙◌}
use mathlib.Core.List.{List}
use mathlib.Core.Bool.{Bool, true, false, ◌||◌}
use mathlib.Core.Logic.{inr}
use native.Mathlib.Omega.{arith}
use borrow.Author.Tests.{eqb-true, eqb-false}
use lib.ListN.{length}
use lib.Dec.{eqb}
use Rattle.frames.specs.declared.Addr.{Addr}
use Rattle.frames.specs.Limits.{max_budget, max_limit, max_value}
use Rattle.values.specs.Vals.{size_of}
use Rattle.build_paging.specs.Cuts.{fits}
use Rattle.build_sources.specs.Source.{Entry}
use Rattle.build_image.specs.Sizes.{remote_len, cost}
use Rattle.build_image.proofs.Lengths.{size-some, remote_most}
use Rattle.law_rows.specs.Rows.{old_entry, old_entries}
use Rattle.build_history.specs.declared.PageAhead.{PageAhead}
use Rattle.build_rows.specs.declared.Hand.{Hand}
use Rattle.build_rows.specs.declared.Spot.{Spot}
use Rattle.build_rows.specs.declared.Old.{Old}
use Rattle.build_rows.specs.Judged.{Runs, old_of}
use Rattle.build_rows.specs.Hand.{Holds, Answers, SpotAt, OldAt}
use Rattle.build_rows.proofs.Rows.{Turn, run_more, run_end, turn_answers, At, turn_at, Places, old-places, old_says}
use Rattle.build_page_ahead.specs.Filled.{page_of, filled, Sized}
use Rattle.build_page_ahead.specs.Answers.{Ready, FilledBy}
use Rattle.build_page_ahead.proofs.Filled.{filled_nil, filled_full, filled_stop, filled_go, sized_full, sized_go}

-- k old versions are left, from slot i of the page in hand on; the new page has n, is t long, its remote frames f
pub record Running (w : List ℕ) (limit budget k₀ : ℕ) (a₀ : Addr) (i₀ : ℕ) (r : PageAhead) (k : ℕ) (h : Hand) (i n t f : ℕ) : Type 0 where
  pub goes : (key : List ℕ) → filled limit budget r (old_entries w key k₀ a₀ i₀) ≡ filled limit budget (page_of n t f false) (old_entries w key k h.page i)
  pub sized : Sized (page_of n t f false)
  pub runs : Runs w k h.page i
  pub holds : Holds w h

module _ (w : List ℕ) (limit budget k : ℕ) (a : Addr) (i : ℕ) (r : PageAhead) where
  -- the page is full, or there is none
  pub run_none : (r.more || eqb k 0) ≡ true → FilledBy w limit budget r k a i r
  run_none e key = by r.more refl e
    where
      by : (b : Bool) → r.more ≡ b → (b || eqb k 0) ≡ true → r ≡ filled limit budget r (old_entries w key k a i)
      by true m q = sym (filled_full limit budget r (old_entries w key k a i) m)
      by false m q = sym (filled_nil limit budget r (old_entries w key k a i) (run_end w key k a i (omega (arith, eqb-true k 0 q))))

  -- neither
  pub run-some : (r.more || eqb k 0) ≡ false → (r.more ≡ false) × (0 < k)
  run-some e = by r.more refl e
    where
      by : (b : Bool) → r.more ≡ b → (b || eqb k 0) ≡ false → (r.more ≡ false) × (0 < k)
      by true m q = absurd (let z : ◌≡◌ {A = ℕ} 0 1 = cc in omega arith)
      by false m q = (m, omega (arith, eqb-false k 0 q))

  -- the first page is in hand
  pub run_begin : Sized r → Runs w k a i → (h : Hand) → Holds w h → h.page ≡ a
      → Running w limit budget k h.page i (page_of r.count r.size r.remote false) k h i r.count r.size r.remote
  run_begin z g h hold e =
      record {
        goes = λ key. refl;
        sized = record { small = z.small; many = z.many; first = z.first; away = z.away };
        runs = rw e g;
        holds = hold;
      }

module _ (w : List ℕ) (limit budget k₀ : ℕ) (a₀ : Addr) (i₀ : ℕ) (r : PageAhead) (k : ℕ) (h : Hand) (i n t f : ℕ) (inv : Running w limit budget k₀ a₀ i₀ r k h i n t f) where
  pub run_done : k ≤ 0 → (a : Addr) → a₀ ≡ a → (r₀ : PageAhead) → r₀ ≡ r → FilledBy w limit budget r₀ k₀ a i₀ (page_of n t f false)
  run_done e a ea r₀ er key =
      sym (rw (er, sym ea) (inv.goes key) ∙ filled_nil limit budget (page_of n t f false) (old_entries w key k h.page i) (run_end w key k h.page i e))

  pub run_ready : Ready w (record { run = page_of n t f false; hand = h })
  run_ready = record { known = inr inv.holds; sized = inv.sized }

  -- one of them
  module _ (l : 0 < k) where
    turn : Turn w k h.page i
    turn = run_more w k h.page i inv.runs l

    pub run-answers : Answers w h.page i
    run-answers = turn_answers w k h.page i turn

    module _ (x : Spot) (sx : SpotAt w h.page i x) where
      at : At w k h.page i turn x
      at = turn_at w k h.page i turn x sx

      pub run-here : Answers w x.hand.page x.slot
      run-here = at.answers

      pub run_stopped : Ready w (record { run = page_of n t f true; hand = x.hand })
      run_stopped = record { known = inr sx.holds; sized = sized_full n t f inv.sized }

      module _ (o : Old) (ox : OldAt w x.hand.page x.slot o) where
        old-is : o ≡ old_of turn.rec
        old-is = ox x.hand.page x.slot turn.rec at.read

        places : Places w turn.rec
        places = old-places w x.hand.page x.slot x.hand.page x.slot turn.rec at.read

        pub run-val : o.bytes.len ≤ max_value
        run-val = omega (arith, ap (λ (y : Old). y.bytes.len) old-is, places.small)

        val-long : (key : List ℕ) → length (old_entry w key turn.rec).val ≡ o.bytes.len
        val-long key = ap (λ (y : Entry). length y.val) (old_says w key turn.rec) ∙ places.long ∙ sym (ap (λ (y : Old). y.bytes.len) old-is)

        -- its size
        module _ (lh : limit ≤ max_limit) (c : ℕ) (ec : c ≡ size_of false limit o.bytes.len) where
          pub run-size : (5 ≤ c) × (c ≤ 65549)
          run-size = let s = size-some limit o.bytes.len in (omega arith, omega arith)

          cost-is : (key : List ℕ) → cost limit (old_entry w key turn.rec) ≡ 12 + c + 4
          unfolding cost
          cost-is key = rw (val-long key, ec) refl

          old-old : (key : List ℕ) → (old_entry w key turn.rec).old ≡ true
          old-old key = ap (λ (y : Entry). y.old) (old_says w key turn.rec)

          pub run_stop : fits budget n t (12 + c + 4) ≡ false → (a : Addr) → a₀ ≡ a → (r₀ : PageAhead) → r₀ ≡ r → FilledBy w limit budget r₀ k₀ a i₀ (page_of n t f true)
          run_stop e a ea r₀ er key =
              let es = old_entries w key (k - 1) x.hand.page (x.slot + 1) in
              sym (rw (er, sym ea) (inv.goes key) ∙ ap (filled limit budget (page_of n t f false)) (at.entries key)
              ∙ filled_stop limit budget n t f (old_entry w key turn.rec) es (old-old key) (ap (fits budget n t) (cost-is key) ∙ e))

          module _ (y : ℕ) (ey : y ≡ remote_len limit o.bytes.len o.bytes.remote.0) where
            pub run-remote : y ≤ 65600
            run-remote = omega (arith, ey, remote_most limit o.bytes.len o.bytes.remote.0, run-val)

            remote-is : (key : List ℕ) → remote_len limit (length (old_entry w key turn.rec).val) (old_entry w key turn.rec).kept ≡ y
            remote-is key =
                ap (λ (m : ℕ). remote_len limit m (old_entry w key turn.rec).kept) (val-long key)
                ∙ ap (remote_len limit o.bytes.len) (ap (λ (z : Entry). z.kept) (old_says w key turn.rec) ∙ sym (ap (λ (z : Old). z.bytes.remote.0) old-is))
                ∙ sym ey

            pub run_on : budget ≤ max_budget → fits budget n t (12 + c + 4) ≡ true → Running w limit budget k₀ a₀ i₀ r (k - 1) x.hand (x.slot + 1) (n + 1) (t + (12 + c + 4)) (f + y)
            run_on bh e =
                record {
                  goes = λ key.
                      let es = old_entries w key (k - 1) x.hand.page (x.slot + 1) in
                      inv.goes key
                      ∙ ap (filled limit budget (page_of n t f false)) (at.entries key)
                      ∙ filled_go limit budget n t f (old_entry w key turn.rec) es (old-old key) (ap (fits budget n t) (cost-is key) ∙ e)
                      ∙ rw (cost-is key, remote-is key) refl;
                  sized = let b = run-size in sized_go n t f inv.sized budget (12 + c + 4) y bh (omega arith) (omega arith) run-remote e;
                  runs = at.more;
                  holds = sx.holds;
                }

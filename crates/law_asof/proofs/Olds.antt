-- A sound head's history: what the lookup hands back of it is the first old version that is no newer.
-- Assumes nothing.
use Prim.Native.Nat.{ℕ, zero, suc, ◌+◌}
use mathlib.Core.Path.{◌≡◌, refl, sym, ap, ◌∙◌}
use mathlib.Core.Bool.{Bool, true, false, not, ◌||◌}
use mathlib.Core.List.{List, [], ◌∷◌}
use native.Mathlib.Omega.{arith}
use borrow.Author.Tests.{eqb-true, eqb-false}
use lib.Dec.{eqb}
use Rattle.spans.specs.Span.{part}
use Rattle.order.specs.declared.Ver.{Ver}
use Rattle.order.specs.Version.{newer_than}
use Rattle.frames.specs.declared.Addr.{Addr}
use Rattle.frames.specs.declared.Body.{Body}
use Rattle.values.specs.declared.HistRef.{HistRef}
use Rattle.values.specs.Keys.{ver_in}
use Rattle.records.proofs.Inside.{val-part}
use Rattle.pages.specs.declared.Place.{Place}
use Rattle.pages.specs.Boundaries.{place, part_in}
use Rattle.pages.specs.Sound.{history_at, chain_from, entered}
use Rattle.pages.specs.Meaning.{olds_from}
use Rattle.pages.proofs.Olds.{history-inside}
use Rattle.pages.proofs.Given.{Link, link_given}
use Rattle.walks.specs.declared.Item.{Item}
use Rattle.walks.specs.declared.OldPlace.{OldPlace}
use Rattle.walks.specs.Walk.{older_on, no_older, item_of}
use Rattle.walks.specs.Listed.{Entry as Listed, older_entries}
use Rattle.walks.proofs.Steps.{Next, next-old, enter_none, enter_in}
use Rattle.walks.proofs.Ages.{Ages, next-aged, aged_none}
use Rattle.asof.specs.AsOf.{old_as_of, old_enter}
use Rattle.asof.proofs.Olds.{old-end, old_newer, old-found}
use Rattle.law_asof.specs.Asked.{first, no_newer}
use Rattle.law_asof.proofs.Picking.{first-here, first_next}
use Rattle.std.proofs.Common.{Some, Result, Ok, Err}
use Rattle.asof.specs.declared.AsOf.{AsOf}
use Rattle.frames.specs.declared.Refusal.{Refusal}

-- an answer beside a key's records, newest first: it is the first that is no newer, or all are newer
abbrev pub Picks : List ℕ → List ℕ → Ver → List Listed → Result AsOf Refusal → Type 0
Picks s probe v rs (Ok (AsOf.Is i ver x n)) = first (no_newer v) rs ≡ (record { key = probe; ver = ver; value = part_in s x }) ∷ []
Picks s probe v rs (Ok (AsOf.Nothing n)) = first (no_newer v) rs ≡ []
Picks s probe v rs (Err r) = ⊥

module _ (s : List ℕ) (probe : List ℕ) (v : Ver) where
  -- one that is newer is passed over
  pub picks_next : (r : Listed) (rs : List Listed) → newer_than r.ver v ≡ true → (x : Result AsOf Refusal) → Picks s probe v rs x → Picks s probe v (r ∷ rs) x
  picks_next r rs e (Ok (AsOf.Is i ver x n)) h = first_next (no_newer v) r rs (ap not e) ∙ h
  picks_next r rs e (Ok (AsOf.Nothing n)) h = first_next (no_newer v) r rs (ap not e) ∙ h
  picks_next r rs e (Err q) h = h

  -- one that is not is handed back
  pub picks_here : (ver : Ver) (x : Place) (y : List ℕ) (rs : List Listed) (i n : ℕ) → newer_than ver v ≡ false → y ≡ part_in s x
      → Picks s probe v ((record { key = probe; ver = ver; value = y }) ∷ rs) (Ok (AsOf.Is i ver x n))
  picks_here ver x y rs i n e q =
      first-here (no_newer v) (record { key = probe; ver = ver; value = y }) rs (ap not e) ∙ ap (λ (z : List ℕ). (record { key = probe; ver = ver; value = z }) ∷ []) q

  module _ (slot reads : ℕ) where
    none_left : (k : ℕ) (h : Addr) (i : ℕ) (p : OldPlace) → k ≡ 0 → p.left ≡ 0 → Picks s probe v (older_entries probe (olds_from s k h i)) (old_as_of s v slot reads p.left p)
    unfolding olds_from older_entries first
    none_left k h i p e z = rw (old-end s v slot reads p (aged_none s p z), e) refl

    -- one turn: the walk's step tells the version and the record
    module _ (k : ℕ) (h : Addr) (d : Body) (i : ℕ) (t : Ver) (g : Link s k h i t) (x : Next s (place 0 0) h d i k g.page g.slot g.rec) where
      abbrev ver : Ver
      ver = ver_in s g.rec.ver_at

      abbrev here : OldPlace
      here = older_on d i (suc k)

      abbrev rest : OldPlace
      rest = older_on x.body (g.slot + 1) k

      abbrev old : Listed
      old = record { key = probe; ver = ver; value = part s g.rec.val_at g.rec.val_len }

      abbrev olds : List Listed
      olds = older_entries probe (olds_from s k g.page (g.slot + 1))

      turn_by : Picks s probe v olds (old_as_of s v slot reads k rest) → Ages s (place 0 0) here (item_of s (place 0 0) g.rec x.names) rest
          → (u : Bool) → newer_than ver v ≡ u → Picks s probe v (old ∷ olds) (old_as_of s v slot reads (suc k) here)
      unfolding item_of
      turn_by ih q true e = rw (old_newer s v slot reads here ver q.slot rest q.aged e) (picks_next old olds e (old_as_of s v slot reads k rest) ih)
      turn_by ih q false e =
          let same : place q.rec.val_at q.rec.val_len ≡ place g.rec.val_at g.rec.val_len = ap (λ (y : Item). y.value) q.item in
          let bytes = val-part s x.body (history-inside s g.page x.body x.opened).inside g.slot g.rec x.read in
          rw (old-found s v slot reads here ver q.slot rest q.aged e, q.read)
          (picks_here ver (place q.rec.val_at q.rec.val_len) old.value olds slot reads e (sym bytes ∙ ap (λ (y : Place). part_in s y) (sym same)))

      turn : Picks s probe v olds (old_as_of s v slot reads k rest) → Picks s probe v (older_entries probe (olds_from s (suc k) h i)) (old_as_of s v slot reads (suc k) here)
      unfolding olds_from older_entries
      turn ih =
          rw g.read
          (turn_by ih (next-aged s (place 0 0) here rest (item_of s (place 0 0) g.rec x.names) (omega arith) x.next) (newer_than ver v) refl)

    olds_pick : (k : ℕ) (h : Addr) (d : Body) (i : ℕ) (t : Ver) → history_at s h ≡ Some d → chain_from s k h i t ≡ true
        → Picks s probe v (older_entries probe (olds_from s k h i)) (old_as_of s v slot reads k (older_on d i k))
    olds_pick zero h d i t o c = none_left 0 h i (older_on d i 0) refl refl
    olds_pick (suc k) h d i t o c =
        let g = link_given s k h i t c in
        let x = next-old s (place 0 0) h d o i k g.page g.slot g.rec g.read in
        turn k h d i t g x (olds_pick k g.page x.body (g.slot + 1) (ver_in s g.rec.ver_at) x.opened g.more)

    -- THE LAW: of a history that is sound, the first that is no newer
    pub enter_picks : (h : HistRef) (t : Ver) → ((eqb h.count 0 || entered s h.page h.slot) ≡ true) → chain_from s h.count h.page h.slot t ≡ true
        → Picks s probe v (older_entries probe (olds_from s h.count h.page h.slot)) (old_enter s v slot reads h)
    unfolding old_enter
    enter_picks h t n c = by (eqb h.count 0) refl n
      where
        by : (u : Bool) → eqb h.count 0 ≡ u → (u || entered s h.page h.slot) ≡ true
            → Picks s probe v (older_entries probe (olds_from s h.count h.page h.slot)) (old_enter s v slot reads h)
        by true e w =
            let z = eqb-true h.count 0 e in
            rw (enter_none s h no_older z) (none_left h.count h.page h.slot no_older z refl)
        by false e w =
            let x = enter_in s h no_older (eqb-false h.count 0 e) w in
            rw x.2 (olds_pick h.count h.page x.0 h.slot t x.1 c)

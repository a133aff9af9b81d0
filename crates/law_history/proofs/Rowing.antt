-- A page whose records are read slot by slot: its rows are the list, its slots are gapless and rise, its heads' chains are whole.
-- Assumes nothing.
use Prim.Native.Nat.{ℕ, ◌+◌}
use mathlib.Core.Path.{◌≡◌, refl, sym, ap, ap₂, ◌∙◌}
use mathlib.Core.Bool.{Bool, true, false, cond, ◌||◌}
use mathlib.Core.List.{List, [], ◌∷◌, ◌++◌}
use borrow.Author.Tests.{eq-eqb}
use lib.ListN.{length}
use lib.Dec.{eqb}
use Rattle.spans.specs.Span.{part}
use Rattle.order.specs.Order.{cmp_bytes, is_less}
use Rattle.order.proofs.Laws.{cmp_front}
use Rattle.frames.specs.declared.Body.{Body}
use Rattle.records.specs.declared.Rec.{Rec}
use Rattle.pages.specs.Sound.{in_order, slots_from, head_ok, multi_of, chains_from}
use Rattle.pages.specs.Meaning.{rows_from, prefix_of, key_of}
use Rattle.law_history.specs.Rows.{Rows, Up, UpAll, multis}
use Rattle.std.specs.declared.cmp.Ordering.{Ordering}

module _ {A : Type 0} (P : Rec → A → Type 0) (s : List ℕ) (b : Body) where
  -- the rows are the list
  pub rows_say : (f : Rec → A) → ((r : Rec) (a : A) → P r a → f r ≡ a) → (i want : ℕ) (xs : List A) → Rows P s b i want xs → rows_from f s b (length xs) i ≡ xs
  unfolding Rows rows_from
  rows_say f g i want [] h = refl
  rows_say f g i want (a ∷ xs) h = rw h.1 (ap₂ (λ (x : A) (y : List A). x ∷ y) (g h.0 a h.3) (rows_say f g (i + 1) h.0.next xs h.4))

  -- a history page's slots
  pub slots-old : b.kind ≡ 2 → (i want la ln : ℕ) (xs : List A) → Rows P s b i want xs → slots_from s b (length xs) i want la ln ≡ true
  unfolding Rows slots_from in_order
  slots-old k i want la ln [] h = refl
  slots-old k i want la ln (a ∷ xs) h =
      rw (h.1, eq-eqb h.0.from want h.2, eq-eqb b.kind 2 k) (slots-old k (i + 1) h.0.next h.0.rest_at h.0.rest_len xs h.4)

  -- another page's: the whole keys rise
  module _ (key : A → List ℕ) (keys : (r : Rec) (a : A) → P r a → key_of s b r ≡ key a) where
    less : (k i la ln ra rn : ℕ) → cmp_bytes (prefix_of s b ++ part s la ln) (prefix_of s b ++ part s ra rn) ≡ Ordering.Less → in_order s k i la ln ra rn ≡ true
    unfolding in_order
    less k i la ln ra rn e = go (eqb k 2 || eqb i 0)
      where
        go : (t : Bool) → cond t true (is_less (cmp_bytes (part s la ln) (part s ra rn))) ≡ true
        go true = refl
        go false = ap is_less (sym (cmp_front (prefix_of s b) (part s la ln) (part s ra rn)) ∙ e)

    pub slots_up : (i want la ln : ℕ) (xs : List A) → Rows P s b i want xs → Up key (prefix_of s b ++ part s la ln) xs → slots_from s b (length xs) i want la ln ≡ true
    unfolding Rows Up slots_from
    slots_up i want la ln [] h u = refl
    slots_up i want la ln (a ∷ xs) h u =
        let r = h.0 in
        let e : key_of s b r ≡ key a = keys r a h.3 in
        let o : in_order s b.kind i la ln r.rest_at r.rest_len ≡ true = less b.kind i la ln r.rest_at r.rest_len (ap (cmp_bytes (prefix_of s b ++ part s la ln)) e ∙ u.0) in
        rw (h.1, eq-eqb r.from want h.2, o) (slots_up (i + 1) r.next r.rest_at r.rest_len xs h.4 (rw (← e) at u.1))

    first-order : (k la ln ra rn : ℕ) → in_order s k 0 la ln ra rn ≡ true
    unfolding in_order
    first-order k la ln ra rn = go (eqb k 2)
      where
        go : (t : Bool) → cond (t || eqb 0 0) true (is_less (cmp_bytes (part s la ln) (part s ra rn))) ≡ true
        go true = refl
        go false = refl

    pub slots_rise : (want : ℕ) (xs : List A) → Rows P s b 0 want xs → UpAll key xs → slots_from s b (length xs) 0 want 0 0 ≡ true
    unfolding Rows UpAll slots_from
    slots_rise want [] h u = refl
    slots_rise want (a ∷ xs) h u =
        let r = h.0 in
        let e : key_of s b r ≡ key a = keys r a h.3 in
        rw (h.1, eq-eqb r.from want h.2, first-order b.kind 0 0 r.rest_at r.rest_len) (slots_up (0 + 1) r.next r.rest_at r.rest_len xs h.4 (rw (← e) at u))

  -- the heads' chains are whole, and has_multiple_versions is exact
  pub chains_say : (count : A → ℕ) → ((r : Rec) (a : A) → P r a → (head_ok s r ≡ true) × (r.hist.count ≡ count a)) → (i want m : ℕ) (xs : List A) → Rows P s b i want xs → chains_from s b (length xs) i m ≡ eqb (multis count m xs) b.multi
  unfolding Rows chains_from multis
  chains_say count g i want m [] h = refl
  chains_say count g i want m (a ∷ xs) h =
      let q = g h.0 a h.3 in
      rw (h.1, q.0, q.1) (chains_say count g (i + 1) h.0.next (multi_of m (count a)) xs h.4)

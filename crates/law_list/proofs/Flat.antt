-- Heads with their older versions, laid flat, are the list; and so for the part of it whose keys have a property.
-- Assumes nothing.
use Prim.Native.Nat.{ℕ, ◌+◌}
use mathlib.Core.Path.{◌≡◌, refl, sym, ap, ◌∙◌}
use mathlib.Core.Bool.{Bool, true, false, cond}
use mathlib.Core.List.{List, [], ◌∷◌, ◌++◌}
use native.Mathlib.Omega.{arith}
use Rattle.order.specs.Order.{cmp_bytes, is_equal}
use Rattle.order.proofs.Laws.{cmp_eq}
use Rattle.pages.specs.Meaning.{Head}
use Rattle.build_sources.specs.Source.{Entry}
use Rattle.build_sources.specs.Marks.{MarkedFrom, Marked}
use Rattle.walks.specs.Listed.{Entry as Listed, older_entries, entries_of}
use Rattle.law_history.specs.Olders.{olders_of}
use Rattle.law_leaf.specs.Grouped.{run_of, head_is, grouped}
use Rattle.law_leaf.proofs.Groups.{keyed}
use Rattle.law_list.specs.Asked.{records_of, having, key_is}
use Rattle.law_list.proofs.Having.{having-all}
use Rattle.std.specs.declared.cmp.Ordering.{Ordering}

equal_by : (o : Ordering) → true ≡ is_equal o → o ≡ Ordering.Equal
equal_by Ordering.Less e = absurd (let z : ◌≡◌ {A = ℕ} 0 1 = cc in omega arith)
equal_by Ordering.Equal e = refl
equal_by Ordering.Greater e = absurd (let z : ◌≡◌ {A = ℕ} 0 1 = cc in omega arith)

-- an old version has the key of the entry before
pub old-key : (a e : Entry) → e.old ≡ is_equal (cmp_bytes a.key e.key) → e.old ≡ true → a.key ≡ e.key
old-key a e m q = cmp_eq a.key e.key (equal_by (cmp_bytes a.key e.key) (sym q ∙ m))

differ : {A : Type 0} → true ≡ false → A
differ e = absurd (let z : ◌≡◌ {A = ℕ} 0 1 = cc in omega arith)

module _ (p : List ℕ → Bool) where
  -- what a kept head's run leaves in front of the rest
  flat_by : (t u v : Bool) (k : List ℕ) (e : Entry) (es : List Entry) → (t ≡ true → k ≡ e.key) → (t ≡ true → u ≡ v)
      → cond v (older_entries e.key (olders_of (run_of es))) [] ++ entries_of (having keyed p (grouped es)) ≡ records_of (having key_is p es)
      → cond u (older_entries k (olders_of (cond t (e ∷ run_of es) []))) [] ++ entries_of (cond t (having keyed p (grouped es)) (cond v (head_is e es ∷ having keyed p (grouped es)) (having keyed p (grouped es))))
      ≡ records_of (cond v (e ∷ having key_is p es) (having key_is p es))
  unfolding older_entries olders_of entries_of records_of
  flat_by true true true k e es f g ih =
      ap (λ (x : List ℕ). (record { key = x; ver = e.ver; value = e.val }) ∷ (older_entries x (olders_of (run_of es)) ++ entries_of (having keyed p (grouped es)))) (f refl)
      ∙ (ap (λ (l : List Listed). (record { key = e.key; ver = e.ver; value = e.val }) ∷ l) ih)
  flat_by true true false k e es f g ih = differ (g refl)
  flat_by true false true k e es f g ih = differ (sym (g refl))
  flat_by true false false k e es f g ih = ih
  flat_by false true true k e es f g ih = ap (λ (l : List Listed). (record { key = e.key; ver = e.ver; value = e.val }) ∷ l) ih
  flat_by false false true k e es f g ih = ap (λ (l : List Listed). (record { key = e.key; ver = e.ver; value = e.val }) ∷ l) ih
  flat_by false true false k e es f g ih = ih
  flat_by false false false k e es f g ih = ih

  having-cond : (t : Bool) (h : Head) (hs : List Head) → having keyed p (cond t hs (h ∷ hs)) ≡ cond t (having keyed p hs) (cond (p h.key) (h ∷ having keyed p hs) (having keyed p hs))
  unfolding having
  having-cond true h hs = refl
  having-cond false h hs = refl

  nil_flat : (t : Bool) → ◌≡◌ {A = List Listed} (cond t [] [] ++ []) []
  nil_flat true = refl
  nil_flat false = refl

  flat_from : (es : List Entry) (a : Entry) → MarkedFrom a es → cond (p a.key) (older_entries a.key (olders_of (run_of es))) [] ++ entries_of (having keyed p (grouped es)) ≡ records_of (having key_is p es)
  unfolding older_entries olders_of entries_of records_of run_of grouped having MarkedFrom
  flat_from [] a m = nil_flat (p a.key)
  flat_from (e ∷ es) a m =
      ap (λ (l : List Head). cond (p a.key) (older_entries a.key (olders_of (run_of (e ∷ es)))) [] ++ entries_of l) (having-cond e.old (head_is e es) (grouped es))
      ∙ flat_by e.old (p a.key) (p e.key) a.key e es (λ q. old-key a e m.0 q) (λ q. ap p (old-key a e m.0 q)) (flat_from es e m.1)

  -- the part of the list whose keys have the property
  pub flat_having : (es : List Entry) → Marked es → entries_of (having keyed p (grouped es)) ≡ records_of (having key_is p es)
  unfolding entries_of records_of grouped having Marked
  flat_having [] m = refl
  flat_having (e ∷ es) m =
      ap entries_of (having-cond e.old (head_is e es) (grouped es))
      ∙ flat_by e.old false (p e.key) [] e es (λ q. differ (sym q ∙ m.0)) (λ q. differ (sym q ∙ m.0)) (flat_from es e m.1)

  -- ---- the groups of that part are that part of the groups

  run_by : (t u v : Bool) (e : Entry) (es : List Entry) → e.old ≡ t → (t ≡ true → u ≡ v) → run_of (having key_is p es) ≡ cond v (run_of es) []
      → run_of (cond v (e ∷ having key_is p es) (having key_is p es)) ≡ cond u (cond t (e ∷ run_of es) []) []
  unfolding run_of
  run_by true true true e es q f ih = ap (λ (b : Bool). cond b (e ∷ run_of (having key_is p es)) []) q ∙ ap (λ (l : List Entry). e ∷ l) ih
  run_by true true false e es q f ih = differ (f refl)
  run_by true false true e es q f ih = differ (sym (f refl))
  run_by true false false e es q f ih = ih
  run_by false true true e es q f ih = rw q refl
  run_by false false true e es q f ih = rw q refl
  run_by false true false e es q f ih = ih
  run_by false false false e es q f ih = ih

  run_nil : (t : Bool) (l : List Entry) → l ≡ [] → l ≡ cond t l []
  run_nil true l e = refl
  run_nil false l e = e

  run-having : (es : List Entry) (a : Entry) → MarkedFrom a es → run_of (having key_is p es) ≡ cond (p a.key) (run_of es) []
  unfolding run_of having MarkedFrom
  run-having [] a m = run_nil (p a.key) [] refl
  run-having (e ∷ es) a m = run_by e.old (p a.key) (p e.key) e es refl (λ q. ap p (old-key a e m.0 q)) (run-having es e m.1)

  group_by : (t v : Bool) (e : Entry) (es : List Entry) → e.old ≡ t → p e.key ≡ v → run_of (having key_is p es) ≡ cond v (run_of es) [] → grouped (having key_is p es) ≡ having keyed p (grouped es)
      → grouped (cond v (e ∷ having key_is p es) (having key_is p es)) ≡ cond t (having keyed p (grouped es)) (cond v (head_is e es ∷ having keyed p (grouped es)) (having keyed p (grouped es)))
  unfolding grouped
  group_by true true e es q w r ih = rw q ih
  group_by true false e es q w r ih = ih
  group_by false true e es q w r ih = rw (q, r) (ap (λ (l : List Head). head_is e es ∷ l) ih)
  group_by false false e es q w r ih = ih

  group-from : (es : List Entry) (a : Entry) → MarkedFrom a es → grouped (having key_is p es) ≡ having keyed p (grouped es)
  unfolding grouped having MarkedFrom
  group-from [] a m = refl
  group-from (e ∷ es) a m = group_by e.old (p e.key) e es refl refl (run-having es e m.1) (group-from es e m.1) ∙ sym (having-cond e.old (head_is e es) (grouped es))

  pub grouped-having : (es : List Entry) → Marked es → grouped (having key_is p es) ≡ having keyed p (grouped es)
  unfolding grouped having Marked
  grouped-having [] m = refl
  grouped-having (e ∷ es) m = group_by e.old (p e.key) e es refl refl (run-having es e m.1) (group-from es e m.1) ∙ sym (having-cond e.old (head_is e es) (grouped es))

-- the whole list
pub flat_grouped : (es : List Entry) → Marked es → entries_of (grouped es) ≡ records_of es
flat_grouped es m =
    ap entries_of (sym (having-all keyed (grouped es))) ∙ flat_having (λ k. true) es m ∙ ap records_of (having-all key_is es)

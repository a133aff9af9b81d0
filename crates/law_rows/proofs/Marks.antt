-- The entries of a sound page are marked: the first of each key is a head, those behind it with the same key are old versions.
-- Assumes nothing.
use Prim.Native.Nat.{ℕ, zero, suc, ◌+◌, ◌≤◌, ◌<◌}
use mathlib.Core.Path.{◌≡◌, refl, sym, subst, ap, ◌∙◌}
use mathlib.Core.Bool.{true, false}
use mathlib.Core.List.{List, [], ◌∷◌, ◌++◌}
use native.Mathlib.Omega.{arith}
use Rattle.order.specs.Order.{cmp_bytes, is_equal}
use Rattle.order.proofs.Laws.{cmp_same}
use Rattle.frames.specs.declared.Addr.{Addr}
use Rattle.frames.specs.declared.Body.{Body}
use Rattle.records.specs.declared.Rec.{Rec}
use Rattle.records.specs.Records.{rec_at}
use Rattle.pages.specs.Sound.{slots_ok, old_at}
use Rattle.pages.specs.Meaning.{key_of}
use Rattle.pages.proofs.Given.{every_slot, keys_rise}
use Rattle.build_sources.specs.Source.{Entry}
use Rattle.build_sources.specs.Marks.{MarkedFrom, Marked}
use Rattle.law_rows.specs.Rows as rows
use Rattle.law_rows.specs.Rows.{old_entry, old_entries, head_entry, head_entries, child_entry, slot_entries, leaf_entries, index_entries}
use Rattle.std.proofs.Common.{Option, Some, None}
use Rattle.pages.specs.declared.OldVersion.{OldVersion}
use Rattle.std.specs.declared.cmp.Ordering.{Ordering}

-- entries that may follow any entry with this key
abbrev Follows : List ℕ → List Entry → Type 0
Follows key es = (x : Entry) → x.key ≡ key → MarkedFrom x es

one_follows : (w key : List ℕ) (r : Rec) (es : List Entry) → Follows key es → Follows key (old_entry w key r ∷ es)
unfolding MarkedFrom old_entry
one_follows w key r es f x e = (sym (ap (λ (k : List ℕ). is_equal (cmp_bytes k key)) e ∙ ap is_equal (cmp_same key)), f (old_entry w key r) refl)

olds_follow : (w key : List ℕ) (rest : List Entry) → Follows key rest → (k : ℕ) (a : Addr) (i : ℕ) → Follows key (old_entries w key k a i ++ rest)
unfolding old_entries
olds_follow w key rest f zero a i = f
olds_follow w key rest f (suc k) a i = go (old_at w a i) (λ p q. olds_follow w key rest f k p (q + 1))
  where
    go : (o : Option OldVersion) → ((p : Addr) (q : ℕ) → Follows key (old_entries w key k p (q + 1) ++ rest)) → Follows key (rows.olds_of w key (old_entries w key k) o ++ rest)
    go (Some o) h = one_follows w key o.rec (old_entries w key k o.page (o.slot + 1) ++ rest) (h o.page o.slot)
    go None h = f

-- what stands first: a head with this key
unfoldable Leads : List ℕ → List Entry → Type 0
Leads key [] = ⊥
Leads key (e ∷ es) = (e.old ≡ false) × ((e.key ≡ key) × MarkedFrom e es)

-- a slot's entries lead with a head of the slot's key, whatever may follow it
abbrev Rowed : List ℕ → Body → (Rec → List Entry) → Type 0
Rowed w b f = (r : Rec) (rest : List Entry) → Follows (key_of w b r) rest → Leads (key_of w b r) (f r ++ rest)

leaf_rowed : (w : List ℕ) (b : Body) → Rowed w b (head_entries w b)
unfolding Leads head_entry head_entries
leaf_rowed w b r rest f = (refl, (refl, olds_follow w (key_of w b r) rest f r.hist.count r.hist.page r.hist.slot (head_entry w b r) refl))

index_rowed : (w : List ℕ) (b : Body) → Rowed w b (λ r. child_entry w b r ∷ [])
unfolding Leads child_entry
index_rowed w b r rest f = (refl, (refl, f (child_entry w b r) refl))

leads_follow : (key next : List ℕ) (es : List Entry) → cmp_bytes key next ≡ Ordering.Less → Leads next es → Follows key es
unfolding Leads MarkedFrom
leads_follow key next [] c l x e = absurd l
leads_follow key next (h ∷ es) c l x e =
    (l.0 ∙ sym (ap (λ (k : List ℕ). is_equal (cmp_bytes k h.key)) e ∙ ap (λ (k : List ℕ). is_equal (cmp_bytes key k)) l.1.0 ∙ ap is_equal c), l.1.1)

none_follows : (key : List ℕ) → Follows key []
unfolding MarkedFrom
none_follows key x e = tt

leads_marked : (key : List ℕ) (es : List Entry) → Leads key es → Marked es
unfolding Leads Marked
leads_marked key [] l = absurd l
leads_marked key (e ∷ es) l = (l.0, l.1.1)

module _ (w : List ℕ) (b : Body) (e : slots_ok w b ≡ true) (n : b.kind ≡ 2 → ⊥) (f : Rec → List Entry) (g : Rowed w b f) where
  slots_more : (k i : ℕ) (r : Rec) → rec_at w b i ≡ Some r → slot_entries f w b (suc k) i ≡ f r ++ slot_entries f w b k (i + 1)
  unfolding slot_entries
  slots_more k i r q = rw q refl

  slots_none : (i : ℕ) → slot_entries f w b 0 i ≡ []
  unfolding slot_entries
  slots_none i = refl

  slots_follow : (k i : ℕ) (r : Rec) → rec_at w b i ≡ Some r → i + k < b.elems → Follows (key_of w b r) (slot_entries f w b k (i + 1))
  slots_follow zero i r q h = subst (Follows (key_of w b r)) (sym (slots_none (i + 1))) (none_follows (key_of w b r))
  slots_follow (suc k) i r q h =
      let o = every_slot w b e (i + 1) (omega arith) in
      subst (Follows (key_of w b r)) (sym (slots_more k (i + 1) o.0 o.1))
      (leads_follow (key_of w b r) (key_of w b o.0) (f o.0 ++ slot_entries f w b k (i + 1 + 1)) (keys_rise w b e n i (omega arith) r o.0 q o.1)
      (g o.0 (slot_entries f w b k (i + 1 + 1)) (slots_follow k (i + 1) o.0 o.1 (omega arith))))

  marked_none : (es : List Entry) → es ≡ [] → Marked es
  unfolding Marked
  marked_none es z = rw z tt

  slots_marked : (k i : ℕ) → i + k ≤ b.elems → Marked (slot_entries f w b k i)
  slots_marked zero i h = marked_none (slot_entries f w b 0 i) (slots_none i)
  slots_marked (suc k) i h =
      let o = every_slot w b e i (omega arith) in
      subst Marked (sym (slots_more k i o.0 o.1))
      (leads_marked (key_of w b o.0) (f o.0 ++ slot_entries f w b k (i + 1)) (g o.0 (slot_entries f w b k (i + 1)) (slots_follow k i o.0 o.1 (omega arith))))

-- THE LAWS
module _ (w : List ℕ) (b : Body) (e : slots_ok w b ≡ true) (n : b.kind ≡ 2 → ⊥) where
  pub leaf_marked : (k i : ℕ) → i + k ≤ b.elems → Marked (leaf_entries w b k i)
  leaf_marked k i h = slots_marked w b e n (head_entries w b) (leaf_rowed w b) k i h

  pub index_marked : (k i : ℕ) → i + k ≤ b.elems → Marked (index_entries w b k i)
  index_marked k i h = slots_marked w b e n (λ r. child_entry w b r ∷ []) (index_rowed w b) k i h

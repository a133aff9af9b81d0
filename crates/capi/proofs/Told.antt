-- How an answer's words become the call's, where the call makes the answer of two.
-- Assumes nothing.
use Prim.Native.Nat.{ℕ}
use mathlib.Core.Path.{◌≡◌, sym, ap, ◌∙◌}
use mathlib.Core.List.{List}
use lib.ListN.{length}
use Rattle.order.specs.declared.Ver.{Ver}
use Rattle.frames.specs.declared.Addr.{Addr}
use Rattle.frames.specs.Layout.{open_at}
use Rattle.pages.specs.Boundaries.{bounds_read, bounds_at}
use Rattle.pages.specs.Refused.{bounds_number}
use Rattle.build_image.specs.Call.{call_of, built_number}
use Rattle.delta.specs.Built.{leaf_built, leaf_arena}
use Rattle.c_words.specs.Words.{written}
use Rattle.c_answers.specs.Answers.{page_words, built_words}
use Rattle.c_words.proofs.Laws.{written_none, told}
use Rattle.std.proofs.Common.{Option, None, Result}
use Rattle.frames.specs.declared.Body.{Body}
use Rattle.frames.specs.declared.Refusal.{Refusal}

-- no page at an address
pub page_bad : (s : List ℕ) (a : Addr) (out : List ℕ) {r : ℕ} → open_at s a ≡ None → r ≡ 4
    → (r ≡ bounds_number (bounds_at s a)) × (out ≡ written (page_words (open_at s a) (bounds_at s a)) out)
unfolding bounds_at
page_bad s a out e n = (
  n ∙ ap (λ (z : Option Body). bounds_number (bounds_read z)) (sym e),
  sym (written_none out) ∙ ap (λ (z : Option Body). written (page_words z (bounds_read z)) out) (sym e),
)

-- a leaf delta: its version is made of two of the call's numbers
module _ (limit group lsn ckpt : ℕ) (a : List ℕ) (next : ℕ) (key value : List ℕ) where
  abbrev leaf_of : Ver → Result (Addr × ℕ) Refusal
  leaf_of v = leaf_built (call_of limit 0 group v.txid lsn ckpt) (length a) next (length key) (length value)

  abbrev arena_of : Ver → List ℕ
  arena_of v = leaf_arena (call_of limit 0 group v.txid lsn ckpt) a next v key value

  pub leaf_told : (out : List ℕ) {v u : Ver} {x : Result (Addr × ℕ) Refusal} {r : ℕ} {a' o : List ℕ} → v ≡ u → x ≡ leaf_of v → a' ≡ arena_of v
      → (r ≡ built_number x) × (o ≡ written (built_words x) out)
      → (r ≡ built_number (leaf_of u)) × ((a' ≡ arena_of u) × (o ≡ written (built_words (leaf_of u)) out))
  leaf_told out ev e f h =
      let t = told built_number built_words out (e ∙ ap leaf_of ev) h in
      (t.0, (f ∙ ap arena_of ev, t.1))

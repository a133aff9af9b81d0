-- What a list's entries are before anything is judged, in the words that a page's laws ask for.
-- Assumes nothing.
use Prim.Native.Nat.{ℕ}
use mathlib.Core.Path.{◌≡◌, refl}
use mathlib.Core.List.{List, [], ◌∷◌}
use native.Mathlib.Omega.{arith}
use Rattle.numbers.specs.Number.{Bytes}
use Rattle.order.specs.Version.{ver_of}
use Rattle.build_sources.specs.declared.Cursor.{Cursor}
use Rattle.build_sources.specs.Lists.{first_of}
use Rattle.build_sources.specs.Source.{Entry, entries}
use Rattle.build_sources.specs.Marks.{Each, Short, Wide, Keeps}
use Rattle.build_sources.proofs.Marked.{short, list-kept, list-wide, list-plain}
use Rattle.law_history.specs.Fit.{Fits}
use Rattle.law_index.specs.Children.{Leads}

pub each_both : {A : Type 0} (P Q R : A → Type 0) → ((x : A) → P x → Q x → R x) → (xs : List A) → Each P xs → Each Q xs → Each R xs
unfolding Each
each_both P Q R f [] p q = tt
each_both P Q R f (x ∷ xs) p q = (f x p.0 q.0, each_both P Q R f xs p.1 q.1)

module _ (l w : List ℕ) (bytes : Bytes l) where
  abbrev Sure : Entry → Type 0
  Sure e = Short e × Wide e

  sure : (c : Cursor) → (c.source ≡ 2 → ⊥) → Each Sure (entries l w c)
  sure c n = each_both Short Wide Sure (λ x p q. (p, q)) (entries l w c) (short l w c) (list-wide l w c n bytes)

  pub index_each : Each Leads (entries l w (first_of 1))
  index_each =
      each_both Sure (λ e. e.ver ≡ ver_of 0 0) Leads (λ x p q. record { short = p.0; wide = p.1; plain = q }) (entries l w (first_of 1)) (sure (first_of 1) (λ k. omega arith)) (list-plain l w (first_of 1) refl)

  -- in any arena: a list keeps no remote
  pub record_each : (s : List ℕ) → Each (Fits s) (entries l w (first_of 0))
  unfolding Keeps
  record_each s =
      each_both Sure (λ e. e.kept ≡ 0) (Fits s) (λ x p q. record { short = p.0; wide = p.1; keeps = λ n. absurd (n q) }) (entries l w (first_of 0)) (sure (first_of 0) (λ k. omega arith)) (list-kept l w (first_of 0) (λ k. omega arith))

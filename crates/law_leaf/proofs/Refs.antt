-- A head's reference to its old versions reads back: it counts them, they are the run behind the head, and their chain is whole.
-- Assumes nothing.
use Prim.Native.Nat.{ℕ, suc, ◌+◌, ◌^◌, ◌<◌}
use mathlib.Core.Path.{◌≡◌, refl, ap, ◌∙◌}
use mathlib.Core.Bool.{true}
use mathlib.Core.List.{List, [], ◌∷◌, ◌++◌}
use native.Mathlib.Omega.{arith}
use borrow.Author.Tests.{ne_eqb}
use lib.ListN.{length, drop}
use lib.Dec.{eqb}
use Rattle.order.specs.declared.Ver.{Ver}
use Rattle.values.specs.declared.HistRef.{HistRef}
use Rattle.values.specs.Vals.{hist_of, no_hist}
use Rattle.values.proofs.ValsBack.{SmallHist, canon}
use Rattle.records.specs.declared.Rec.{Rec}
use Rattle.values.specs.Keys.{ver_in}
use Rattle.pages.specs.Sound.{entered, head_ok}
use Rattle.pages.specs.Meaning.{olds_from}
use Rattle.pages.proofs.Turns.{head_none, head_chain}
use Rattle.build_sources.specs.Source.{Entry, olds}
use Rattle.build_image.specs.Image.{PageSlot, ref_of}
use Rattle.law_history.specs.Olders.{olders_of, Aged}
use Rattle.law_history.proofs.Chain.{Placed, Told}
use Rattle.law_history.proofs.Paging.{olds-read, chain_read}

-- the places go on with the old versions
pub told-drop : (s : List ℕ) (ps : List PageSlot) (e : Entry) (es : List Entry) → Told s ps (e ∷ es) → Told s (drop 1 ps) es
unfolding Told
told-drop s [] e es h = absurd h
told-drop s (p ∷ ps) e es h = h.1

-- a reference's numbers have their widths
pub ref-small : (s : List ℕ) (ps : List PageSlot) (os : List Entry) (k : ℕ) → k < 256 ^ 4 → Told s ps os → SmallHist (ref_of ps k)
unfolding Told
ref-small s [] os k l h = record { page = omega arith; slot = omega arith; count = l }
ref-small s (p ∷ ps) [] k l h = absurd h
ref-small s (p ∷ ps) (e ∷ es) k l h = record { page = h.0.word; slot = h.0.half; count = l }

pub ref-count : (ps : List PageSlot) (k : ℕ) → (ref_of ps k).count ≡ k
ref-count [] k = refl
ref-count (p ∷ ps) k = refl

-- what a record with this reference says of its old versions
pub record RefReads (s : List ℕ) (h : HistRef) (t : Ver) (run : List Entry) : Type 0 where
  pub count : h.count ≡ length run
  pub olds : olds_from s h.count h.page h.slot ≡ olders_of run
  pub ok : (r : Rec) → r.hist ≡ h → ver_in s r.ver_at ≡ t → head_ok s r ≡ true

-- none
none_reads : (s : List ℕ) (t : Ver) → RefReads s no_hist t []
unfolding olds_from olders_of
none_reads s t = record { count = refl; olds = refl; ok = λ r e v. head_none s r (ap (λ (h : HistRef). h.count) e) }

-- some: x and the run xs behind it
some_reads : (s : List ℕ) (p : PageSlot) (t : Ver) (x : Entry) (xs ys : List Entry) → Placed s p ((x ∷ xs) ++ ys) → Aged t (x ∷ xs) → RefReads s (hist_of p.page p.slot (length (x ∷ xs))) t (x ∷ xs)
some_reads s p t x xs ys h g =
    record {
      count = refl;
      olds = olds-read s p.page p.slot (x ∷ xs) ys h.olds;
      ok =
          λ r e v.
          head_chain s r (λ z. let y : r.hist.count ≡ suc (length xs) = ap (λ (q : HistRef). q.count) e in omega arith) (rw e h.entered)
          ∙ rw (e, v) (chain_read s p.page p.slot t (x ∷ xs) ys h.olds g);
    }

pub ref_reads : (s : List ℕ) (ps : List PageSlot) (t : Ver) (run rest : List Entry) → Told s ps (run ++ rest) → Aged t run → RefReads s (canon (ref_of ps (length run))) t run
unfolding Told
ref_reads s ps t [] rest h g = rw (ap (λ (c : ℕ). eqb c 0) (ref-count ps 0)) (none_reads s t)
ref_reads s [] t (x ∷ xs) rest h g = absurd h
ref_reads s (p ∷ ps) t (x ∷ xs) rest h g = rw (ne_eqb (length (x ∷ xs)) 0 (λ q. omega arith)) (some_reads s p t x xs rest h.0 g)

-- A lower bound with the largest version cuts a page's rows by key alone.
-- Assumes nothing.
use Prim.Native.Nat.{ℕ, zero, suc, ◌^◌, ◌≤◌, ◌<◌}
use mathlib.Core.Path.{◌≡◌, refl, sym, ap, ◌∙◌}
use mathlib.Core.Bool.{Bool, true, false, ◌&&◌, cond}
use mathlib.Core.List.{List, [], ◌∷◌}
use native.Mathlib.Omega.{arith}
use borrow.Author.Tests.{le-ltb}
use lib.ListN.{get_or}
use lib.Dec.{eqb}
use Rattle.order.specs.declared.Ver.{Ver}
use Rattle.order.specs.Order.{cmp_bytes, is_less}
use Rattle.order.specs.Version.{newer_than}
use Rattle.pages.specs.Meaning.{Head, Child, Rows, leaf, index}
use Rattle.build_sources.specs.Source.{Entry}
use Rattle.build_sources.specs.Marks.{Each, Wide}
use Rattle.sst.specs.Says.{no_head, no_child, row_count, row_key, row_newer, earlier, row_less, FirstNotLess, BoundSays}
use Rattle.law_leaf.specs.Grouped.{head_is, grouped}
use Rattle.law_leaf.proofs.Groups.{keyed}
use Rattle.law_list.specs.Asked.{largest, pos_of}
use Rattle.law_list.proofs.Having.{CutAt, cut_at}
use Rattle.std.proofs.Common.{Result, Ok, Err}
use Rattle.frames.specs.declared.Refusal.{Refusal}
use Rattle.sst.specs.declared.Bound.{Bound}
use Rattle.std.specs.declared.cmp.Ordering.{Ordering}

-- ---- no version is newer than the largest

and_no : (t : Bool) → (t && false) ≡ false
and_no true = refl
and_no false = refl

pub not_newer : (v : Ver) → v.txid < 256 ^ 8 → v.cmd < 256 ^ 4 → newer_than v largest ≡ false
unfolding newer_than
not_newer v a b =
    rw (le-ltb largest.txid v.txid (omega arith), le-ltb largest.cmd v.cmd (omega arith)) (and_no (eqb v.txid largest.txid))

abbrev Plain : Head → Type 0
Plain h = newer_than h.ver largest ≡ false

plain_by : (t : Bool) (e : Entry) (es : List Entry) → Wide e → Each Plain (grouped es) → Each Plain (cond t (grouped es) (head_is e es ∷ grouped es))
unfolding Each
plain_by true e es f h = h
plain_by false e es f h = (not_newer e.ver f.txid f.cmd, h)

plain-heads : (es : List Entry) → Each Wide es → Each Plain (grouped es)
unfolding Each grouped
plain-heads [] f = tt
plain-heads (e ∷ es) f = plain_by e.old e es f.0 (plain-heads es f.1)

each_at : (hs : List Head) → Each Plain hs → (i : ℕ) → Plain (get_or hs i no_head)
unfolding Each
each_at [] h i = not_newer no_head.ver (omega arith) (omega arith)
each_at (x ∷ xs) h zero = h.0
each_at (x ∷ xs) h (suc i) = each_at xs h.1 i

pub heads-plain : (es : List Entry) → Each Wide es → (i : ℕ) → row_newer (leaf (grouped es)) largest i ≡ false
heads-plain es f i = each_at (grouped es) (plain-heads es f) i

-- ---- the position

earlier-less : (o : Ordering) → earlier false o ≡ is_less o
earlier-less Ordering.Less = refl
earlier-less Ordering.Equal = refl
earlier-less Ordering.Greater = refl

-- the bound is a position, and the rows below it are those with a lesser key
pub record Cuts (rows : Rows) (v : Ver) (probe : List ℕ) (q : ℕ) : Type 0 where
  pub inside : q ≤ row_count rows
  pub before : (i : ℕ) → i < q → is_less (cmp_bytes (row_key rows i) probe) ≡ true
  pub behind : (i : ℕ) → q ≤ i → i < row_count rows → is_less (cmp_bytes (row_key rows i) probe) ≡ false

less-row : (rows : Rows) (v : Ver) (probe : List ℕ) (i : ℕ) → row_newer rows v i ≡ false → row_less rows probe v i ≡ is_less (cmp_bytes (row_key rows i) probe)
less-row rows v probe i e = ap (λ (t : Bool). earlier t (cmp_bytes (row_key rows i) probe)) e ∙ earlier-less (cmp_bytes (row_key rows i) probe)

cuts_first : (rows : Rows) (v : Ver) (probe : List ℕ) (q : ℕ) → ((i : ℕ) → row_newer rows v i ≡ false) → q ≤ row_count rows → FirstNotLess rows probe v q → Cuts rows v probe q
cuts_first rows v probe q n l f =
    record {
      inside = l;
      before = λ i h. sym (less-row rows v probe i (n i)) ∙ f.before i h;
      behind = λ i h m. sym (less-row rows v probe i (n i)) ∙ f.behind i h m;
    }

pub bound-cuts : (rows : Rows) (probe : List ℕ) (v : Ver) → ((i : ℕ) → row_newer rows v i ≡ false) → (r : Result Bound Refusal) → BoundSays rows probe v r → Cuts rows v probe (pos_of r)
bound-cuts rows probe v n (Ok (Bound.At q k)) f = cuts_first rows v probe q n (omega (arith, f.0)) f.1
bound-cuts rows probe v n (Ok (Bound.PastEnd q k)) f = cuts_first rows v probe q n (omega (arith, f.0)) f.1
bound-cuts rows probe v n (Err r) f = absurd f

-- of a leaf's heads, of an index page's children
pub heads_cut : (hs : List Head) (v : Ver) (probe : List ℕ) (q : ℕ) → Cuts (leaf hs) v probe q → CutAt keyed probe q hs
heads_cut hs v probe q c = cut_at keyed probe no_head hs q c.inside c.before c.behind

abbrev pub child_key : Child → List ℕ
child_key c = c.key

pub children_cut : (cs : List Child) (v : Ver) (probe : List ℕ) (q : ℕ) → Cuts (index cs) v probe q → CutAt child_key probe q cs
children_cut cs v probe q c = cut_at child_key probe no_child cs q c.inside c.before c.behind

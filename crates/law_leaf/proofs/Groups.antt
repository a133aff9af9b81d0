-- Entries in order, by key: the heads' keys rise, each run of old versions grows older, and the counts of both.
-- Assumes nothing.
use Prim.Native.Nat.{ℕ, zero, suc, ◌+◌, ◌≤◌}
use mathlib.Core.Path.{◌≡◌, refl, sym, ap, ◌∙◌}
use mathlib.Core.Bool.{Bool, true, false, not, cond}
use mathlib.Core.List.{List, [], ◌∷◌, ◌++◌, map}
use native.Mathlib.Omega.{arith}
use borrow.Author.Tests.{ne_eqb}
use lib.ListN.{length}
use Rattle.order.specs.declared.Ver.{Ver}
use Rattle.order.specs.Order.{cmp_bytes, is_equal}
use Rattle.order.specs.Bounds.{in_bounds, all_in_bounds}
use Rattle.order.specs.Version.{newer_than}
use Rattle.order.proofs.Laws.{cmp_eq}
use Rattle.order.proofs.Bounds.{both, both_first, both_second}
use Rattle.pages.specs.Meaning.{Head}
use Rattle.pages.specs.Sound.{multi_of}
use Rattle.pages.proofs.Given.{yes}
use Rattle.build_sources.specs.Source.{Entry, only, olds, heads}
use Rattle.build_sources.specs.Marks.{MarkedFrom, Marked}
use Rattle.build_sources.specs.Judged.{above_by, above, rising_from, rising}
use Rattle.build_image.specs.Sizes.{old_run}
use Rattle.build_image.specs.Image.{one_if}
use Rattle.law_history.specs.Rows.{Up, UpAll, multis}
use Rattle.law_history.specs.Olders.{olders_of, Aged}
use Rattle.law_leaf.specs.Grouped.{run_of, head_is, grouped}
use Rattle.std.specs.declared.cmp.Ordering.{Ordering}

-- ---- counts

pub length_olders : (es : List Entry) → length (olders_of es) ≡ length es
unfolding olders_of
length_olders [] = refl
length_olders (e ∷ es) = ap suc (length_olders es)

run_by : (t : Bool) (e : Entry) (es : List Entry) (n : ℕ) → length es ≡ n → length (cond t (e ∷ es) []) ≡ cond t (suc n) 0
run_by true e es n h = ap suc h
run_by false e es n h = refl

pub length_run : (es : List Entry) → length (run_of es) ≡ old_run es
unfolding run_of old_run
length_run [] = refl
length_run (e ∷ es) = run_by e.old e (run_of es) (old_run es) (length_run es)

short_by : (t : Bool) (n k : ℕ) → k ≤ n → cond t (suc k) 0 ≤ suc n
short_by true n k h = omega arith
short_by false n k h = omega arith

pub run_short : (es : List Entry) → old_run es ≤ length es
unfolding old_run
run_short [] = omega arith
run_short (e ∷ es) = short_by e.old (length es) (old_run es) (run_short es)

many_by : (t : Bool) (e : Entry) (h : Head) (hs : List Head) (es : List Entry) → length hs ≡ length es → length (cond t hs (h ∷ hs)) ≡ length (cond (not t) (e ∷ es) es)
many_by true e h hs es q = q
many_by false e h hs es q = ap suc q

pub grouped-many : (es : List Entry) → length (grouped es) ≡ length (heads es)
unfolding grouped only
grouped-many [] = refl
grouped-many (e ∷ es) = many_by e.old e (head_is e es) (grouped es) (only false es) (grouped-many es)

-- the run is the front of all old versions
front_by : (t : Bool) (e : Entry) (rs os : List Entry) → (rest : List Entry) × (os ≡ rs ++ rest) → (rest : List Entry) × (cond t (e ∷ os) os ≡ cond t (e ∷ rs) [] ++ rest)
front_by true e rs os h = (h.0, ap (λ (l : List Entry). e ∷ l) h.1)
front_by false e rs os h = (os, refl)

pub run-front : (es : List Entry) → (rest : List Entry) × (olds es ≡ run_of es ++ rest)
unfolding run_of only
run-front [] = ([], refl)
run-front (e ∷ es) = front_by e.old e (run_of es) (only true es) (run-front es)

-- ---- has_multiple_versions

abbrev pub count_of : Head → ℕ
count_of h = length h.olds

multi_by : (c n : ℕ) → multi_of (one_if (c + 0)) n ≡ one_if (c + n)
unfolding multi_of
multi_by c zero = refl
multi_by c (suc n) = let e : c + suc n ≡ suc (c + n) = omega arith in rw (ne_eqb (suc n) 0 (λ q. omega arith), e) refl

multis_by : (t : Bool) (c k : ℕ) (h : Head) (hs : List Head) (e : Entry) (os : List Entry) → count_of h ≡ k
    → ((d : ℕ) → multis count_of (one_if (d + k)) hs ≡ one_if (d + length os)) → multis count_of (one_if (c + cond t (suc k) 0)) (cond t hs (h ∷ hs)) ≡ one_if (c + length (cond t (e ∷ os) os))
unfolding multis
multis_by true c k h hs e os q ih =
    let x : c + suc k ≡ suc c + k = omega arith in
    let y : c + suc (length os) ≡ suc c + length os = omega arith in
    rw (x, y) (ih (suc c))
multis_by false c k h hs e os q ih = ap (λ (n : ℕ). multis count_of (multi_of (one_if (c + 0)) n) hs) q ∙ ap (λ (n : ℕ). multis count_of n hs) (multi_by c k) ∙ ih c

multis-from : (es : List Entry) (c : ℕ) → multis count_of (one_if (c + old_run es)) (grouped es) ≡ one_if (c + length (olds es))
unfolding multis old_run grouped only
multis-from [] c = refl
multis-from (e ∷ es) c =
    multis_by e.old c (old_run es) (head_is e es) (grouped es) e (only true es)
    (length_olders (run_of es) ∙ length_run es) (multis-from es)

first_run : (es : List Entry) → Marked es → old_run es ≡ 0
unfolding Marked old_run
first_run [] h = refl
first_run (e ∷ es) h = rw h.0 refl

-- 1 exactly where a head has old versions
pub multis-is : (es : List Entry) → Marked es → multis count_of 0 (grouped es) ≡ one_if (length (olds es))
multis-is es h =
    let z : 0 + old_run es ≡ 0 = omega (arith, first_run es h) in
    let y : 0 + length (olds es) ≡ length (olds es) = omega arith in
    ap (λ (c : ℕ). multis count_of (one_if c) (grouped es)) (sym z) ∙ multis-from es 0 ∙ ap one_if y

-- ---- order

no : {A : Type 0} → false ≡ true → A
no e = absurd (let z : ◌≡◌ {A = ℕ} 0 1 = cc in omega arith)

no' : {A : Type 0} → true ≡ false → A
no' e = absurd (let z : ◌≡◌ {A = ℕ} 0 1 = cc in omega arith)

-- an old version is older than the entry before, of the same key; a head's key is greater
step_by : (o : Ordering) (v w : Ver) (t : Bool) → t ≡ is_equal o → above_by o v w ≡ true → (t ≡ true → (o ≡ Ordering.Equal) × (newer_than v w ≡ true)) × (t ≡ false → o ≡ Ordering.Less)
step_by Ordering.Less v w t e h = (λ q. no (sym e ∙ q), λ q. refl)
step_by Ordering.Equal v w t e h = (λ q. (refl, h), λ q. no' (sym e ∙ q))
step_by Ordering.Greater v w t e h = no h

step : (a e : Entry) → e.old ≡ is_equal (cmp_bytes a.key e.key) → above a e ≡ true → (e.old ≡ true → (cmp_bytes a.key e.key ≡ Ordering.Equal) × (newer_than a.ver e.ver ≡ true)) × (e.old ≡ false → cmp_bytes a.key e.key ≡ Ordering.Less)
unfolding above
step a e m h = step_by (cmp_bytes a.key e.key) a.ver e.ver e.old m h

-- behind each entry the run grows older
unfoldable pub Ages : List Entry → Type 0
Ages [] = Unit {0}
Ages (e ∷ es) = Aged e.ver (run_of es) × Ages es

aged_by : (t : Bool) (v : Ver) (e : Entry) (rs : List Entry) → (t ≡ true → newer_than v e.ver ≡ true) → Aged e.ver rs → Aged v (cond t (e ∷ rs) [])
unfolding Aged
aged_by true v e rs h g = (h refl, g)
aged_by false v e rs h g = tt

ages_from : (es : List Entry) (a : Entry) → rising_from a es ≡ true → MarkedFrom a es → Aged a.ver (run_of es) × Ages es
unfolding rising_from MarkedFrom Aged run_of Ages
ages_from [] a h m = (tt, tt)
ages_from (e ∷ es) a h m =
    let y = yes (above a e) (rising_from e es) h in
    let g = ages_from es e y.1 m.1 in
    (aged_by e.old a.ver e (run_of es) (λ q. ((step a e m.0 y.0).0 q).1) g.0, g)

pub ages : (es : List Entry) → rising es ≡ true → Marked es → Ages es
unfolding rising Marked Ages
ages [] h m = tt
ages (e ∷ es) h m = ages_from es e h m.1

-- the heads' keys rise
abbrev pub keyed : Head → List ℕ
keyed h = h.key

up_by : (t : Bool) (k : List ℕ) (e : Entry) (h : Head) (hs : List Head) → h.key ≡ e.key → (t ≡ true → cmp_bytes k e.key ≡ Ordering.Equal) → (t ≡ false → cmp_bytes k e.key ≡ Ordering.Less) → Up keyed e.key hs → Up keyed k (cond t hs (h ∷ hs))
unfolding Up
up_by true k e h hs q f g u = let z : k ≡ e.key = cmp_eq k e.key (f refl) in rw z u
up_by false k e h hs q f g u = rw q (g refl, u)

up_from : (es : List Entry) (a : Entry) → rising_from a es ≡ true → MarkedFrom a es → Up keyed a.key (grouped es)
unfolding rising_from MarkedFrom grouped Up
up_from [] a h m = tt
up_from (e ∷ es) a h m =
    let y = yes (above a e) (rising_from e es) h in
    let w = step a e m.0 y.0 in
    up_by e.old a.key e (head_is e es) (grouped es) refl (λ q. (w.0 q).0) w.1 (up_from es e y.1 m.1)

pub heads_rise : (es : List Entry) → rising es ≡ true → Marked es → UpAll keyed (grouped es)
unfolding rising Marked grouped UpAll
heads_rise [] h m = tt
heads_rise (e ∷ es) h m = rw m.0 (up_from es e h m.1)

-- what lies between the boundaries with all its versions does so by its heads
pub heads_in : (lo hi : List ℕ) (es : List Entry) → all_in_bounds lo hi (map (λ (e : Entry). e.key) es) ≡ true → all_in_bounds lo hi (map keyed (grouped es)) ≡ true
unfolding all_in_bounds grouped
heads_in lo hi [] h = refl
heads_in lo hi (e ∷ es) h =
    let rest = all_in_bounds lo hi (map (λ (x : Entry). x.key) es) in
    by e.old (both_first (in_bounds lo hi e.key) rest h) (heads_in lo hi es (both_second (in_bounds lo hi e.key) rest h))
  where
    by : (t : Bool) → in_bounds lo hi e.key ≡ true → all_in_bounds lo hi (map keyed (grouped es)) ≡ true → all_in_bounds lo hi (map keyed (cond t (grouped es) (head_is e es ∷ grouped es))) ≡ true
    by true x y = y
    by false x y = both (in_bounds lo hi e.key) (all_in_bounds lo hi (map keyed (grouped es))) x y

-- Judging a whole source: finishing from here gives the answer. Each law speaks of `Found`, or of an end.
-- Assumes nothing.
use mathlib.Core.Path.{◌≡◌, refl, sym, ap, ◌∙◌}
use mathlib.Core.List.{List, [], ◌∷◌, map}
use mathlib.Core.Bool.{Bool, true, false, cond}
use Prim.Native.Nat.{ℕ, suc, ◌+◌, ◌-◌, ◌≤◌}
use native.Mathlib.Omega.{arith}
use lib.ListN.{length}
use lib.Dec.{eqb}
use Rattle.spans.proofs.Tests.{ask}
use Rattle.order.specs.Order.{cmp_bytes, starts_with}
use Rattle.order.specs.Bounds.{below_by, below_hi, spanned}
use Rattle.order.specs.Version.{newer_than}
use Rattle.order.proofs.Bounds.{AtMost, Ascends, last_of, ends_decide, no_keys}
use Rattle.build_sources.specs.declared.Cursor.{Cursor}
use Rattle.build_sources.specs.declared.EntryAt.{EntryAt}
use Rattle.build_sources.specs.Keys.{key_bytes, src_of}
use Rattle.build_sources.specs.Source.{Entry, entry_of, entries, left_of}
use Rattle.build_sources.specs.Judged.{above_by, above, rising_from, rising, prefixed, enclosed, risen_of}
use Rattle.build_sources.specs.Pages.{pages_left}
use Rattle.build_sources.proofs.Paged.{left-small}
use Rattle.build_sources.proofs.Sourced.{Found}
use Rattle.std.proofs.Common.{Option, Some, None}
use Rattle.std.specs.declared.cmp.Ordering.{Ordering}

-- the key of an entry, by where it lies
pub key_of_lem : (l w : List ℕ) (i : EntryAt) (b : Bool) → i.footing ≡ b → key_bytes (src_of l w b) i.key ≡ (entry_of l w i).key
unfolding entry_of
key_of_lem l w i b e = rw e refl

pub by_keys : (l w : List ℕ) (a b : EntryAt) (x y : Bool) (o : Ordering) → a.footing ≡ x → b.footing ≡ y
    → o ≡ cmp_bytes (key_bytes (src_of l w x) a.key) (key_bytes (src_of l w y) b.key) → o ≡ cmp_bytes (entry_of l w a).key (entry_of l w b).key
by_keys l w a b x y o p q h = h ∙ rw (key_of_lem l w a x p, key_of_lem l w b y q) refl

-- one entry against the one before
module _ (l w : List ℕ) (a b : EntryAt) (o : Ordering) (e : o ≡ cmp_bytes (entry_of l w a).key (entry_of l w b).key) where
  pub above-less : o ≡ Ordering.Less → true ≡ above (entry_of l w a) (entry_of l w b)
  unfolding above
  above-less h = rw (sym e ∙ h) refl

  pub above_equal : o ≡ Ordering.Equal → (r : Bool) → r ≡ newer_than a.ver b.ver → r ≡ above (entry_of l w a) (entry_of l w b)
  unfolding above entry_of
  above_equal h r q = rw (sym e ∙ h) q

  pub above_greater : o ≡ Ordering.Greater → false ≡ above (entry_of l w a) (entry_of l w b)
  unfolding above
  above_greater h = rw (sym e ∙ h) refl

module _ (l w : List ℕ) (x : Entry) (c : Cursor) where
  rising-end : entries l w c ≡ [] → true ≡ rising_from x (entries l w c)
  unfolding rising_from
  rising-end e = rw e refl

  module _ (i : EntryAt) (d : Cursor) (f : Found l w c i d) where
    rising_not : above x (entry_of l w i) ≡ false → false ≡ rising_from x (entries l w c)
    unfolding rising_from
    rising_not h = rw (f.list, h) refl

    rising-on : above x (entry_of l w i) ≡ true → rising_from (entry_of l w i) (entries l w d) ≡ rising_from x (entries l w c)
    unfolding rising_from
    rising-on h = rw (f.list, h) refl

module _ (l w : List ℕ) (c : Cursor) where
  pub rises-end : (lo hi : List ℕ) (o : Ordering) (b : Bool) → o ≡ cmp_bytes lo hi → b ≡ below_by o hi → entries l w c ≡ [] → Some (0, b) ≡ risen_of lo hi (entries l w c)
  unfolding rising risen_of below_hi
  rises-end lo hi o b q h e = rw e (ap (λ (x : Bool). Some (0, x)) (h ∙ ap (λ (x : Ordering). below_by x hi) q ∙ no_keys lo hi))

  pub prefixed-end : (p : List ℕ) → entries l w c ≡ [] → true ≡ prefixed p (entries l w c)
  unfolding prefixed
  prefixed-end p e = rw e refl

  module _ (i : EntryAt) (d : Cursor) (f : Found l w c i d) where
    pub rises-on : (lo hi : List ℕ) (r : Option (ℕ × Bool)) → r ≡ risen_of lo hi (entry_of l w i ∷ entries l w d) → r ≡ risen_of lo hi (entries l w c)
    rises-on lo hi r h = rw f.list h

    pub prefixed_not : (p : List ℕ) → starts_with p (entry_of l w i).key ≡ false → false ≡ prefixed p (entries l w c)
    unfolding prefixed
    prefixed_not p h = rw (f.list, h) refl

    pub prefixed-on : (p : List ℕ) → starts_with p (entry_of l w i).key ≡ true → prefixed p (entries l w d) ≡ prefixed p (entries l w c)
    unfolding prefixed
    prefixed-on p h = rw (f.list, h) refl

-- ---- rising, counted and bounded

abbrev keys : List Entry → List (List ℕ)
keys es = map (λ (e : Entry). e.key) es

-- what a pass that answers `Up` found
pub record Climbed (lo hi : List ℕ) (es : List Entry) (n : ℕ) (b : Bool) : Type 0 where
  pub up : rising es ≡ true
  pub count : n ≡ length es
  pub inside : b ≡ enclosed lo hi es

pub risen_up : (lo hi : List ℕ) (es : List Entry) (n : ℕ) (b : Bool) → Some (n, b) ≡ risen_of lo hi es → Climbed lo hi es n b
unfolding risen_of
risen_up lo hi es n b e = go (rising es) refl e
  where
    go : (t : Bool) → rising es ≡ t → ◌≡◌ {A = Option (ℕ × Bool)} (Some (n, b)) (cond t (Some (length es, enclosed lo hi es)) None) → Climbed lo hi es n b
    go true q e = record { up = q; count = grind arith; inside = grind arith }
    go false q e = absurd (let z : ◌≡◌ {A = ℕ} 0 1 = cc in omega arith)

pub risen_not : (lo hi : List ℕ) (es : List Entry) → None ≡ risen_of lo hi es → rising es ≡ false
unfolding risen_of
risen_not lo hi es e = go (rising es) e
  where
    go : (b : Bool) → ◌≡◌ {A = Option (ℕ × Bool)} None (cond b (Some (length es, enclosed lo hi es)) None) → b ≡ false
    go true e = absurd (let z : ◌≡◌ {A = ℕ} 0 1 = cc in omega arith)
    go false e = refl

is_up : (lo hi : List ℕ) (es : List Entry) (n : ℕ) (b : Bool) → true ≡ rising es → n ≡ length es → b ≡ enclosed lo hi es → Some (n, b) ≡ risen_of lo hi es
unfolding risen_of
is_up lo hi es n b e q h = rw (← e, q, h) refl

is_not : (lo hi : List ℕ) (es : List Entry) → false ≡ rising es → None ≡ risen_of lo hi es
unfolding risen_of
is_not lo hi es e = rw (← e) refl

-- the keys of entries that rise ascend
above_most : (a b : Entry) → above a b ≡ true → AtMost a.key b.key
unfolding above
above_most a b e q =
    let z : false ≡ true = sym (ap (λ (o : Ordering). above_by o a.ver b.ver) q) ∙ e in
    absurd (let y : ◌≡◌ {A = ℕ} 0 1 = cc in omega arith)

pub ascending : (x : Entry) (es : List Entry) → rising_from x es ≡ true → Ascends x.key (keys es)
unfolding rising_from Ascends
ascending x [] e = tt
ascending x (y ∷ es) e =
    let q = ask (above x y) (rising_from y es) false true (λ z. absurd (let v : ◌≡◌ {A = ℕ} 0 1 = cc in omega arith)) e in
    (above_most x y q.0, ascending y es q.1)

-- what is counted and what is to come; it cannot pass what the source holds
pub record Rising (l w : List ℕ) (x₀ : Entry) (c₀ : Cursor) (x : Entry) (c : Cursor) (n : ℕ) : Type 0 where
  pub goes : rising_from x (entries l w c) ≡ rising_from x₀ (entries l w c₀)
  pub last : last_of x.key (keys (entries l w c)) ≡ last_of x₀.key (keys (entries l w c₀))
  pub all : n + length (entries l w c) ≡ suc (length (entries l w c₀))
  pub left : n + left_of l w c ≤ suc (left_of l w c₀)

pub rising_begin : (l w : List ℕ) (x : Entry) (c : Cursor) → Rising l w x c x c 1
rising_begin l w x c = record { goes = refl; last = refl; all = omega arith; left = omega arith }

module _ (l w : List ℕ) (x₀ : Entry) (c₀ : Cursor) (x : Entry) (c : Cursor) (n : ℕ) (h : Rising l w x₀ c₀ x c n) where
  rising-all : {b : Bool} → b ≡ rising_from x (entries l w c) → b ≡ rising (x₀ ∷ entries l w c₀)
  unfolding rising
  rising-all e = e ∙ h.goes

  last-is : entries l w c ≡ [] → x.key ≡ last_of x₀.key (keys (entries l w c₀))
  unfolding last_of
  last-is e = ap (λ (es : List Entry). last_of x.key (keys es)) (sym e) ∙ h.last

  module _ (lo hi : List ℕ) where
    pub risen_end : (b : Bool) → b ≡ spanned lo hi x₀.key x.key → entries l w c ≡ [] → Some (n, b) ≡ risen_of lo hi (x₀ ∷ entries l w c₀)
    risen_end b q e =
        is_up lo hi (x₀ ∷ entries l w c₀) n b (rising-all (rising-end l w x c e)) (omega (arith, h.all, ap length e))
        (q
        ∙ ap (spanned lo hi x₀.key) (last-is e)
        ∙ ends_decide lo hi x₀.key (keys (entries l w c₀)) (ascending x₀ (entries l w c₀) (sym h.goes ∙ sym (rising-end l w x c e))))

    module _ (i : EntryAt) (d : Cursor) (f : Found l w c i d) where
      pub risen_stop : above x (entry_of l w i) ≡ false → None ≡ risen_of lo hi (x₀ ∷ entries l w c₀)
      risen_stop e = is_not lo hi (x₀ ∷ entries l w c₀) (rising-all (rising_not l w x c i d f e))

  module _ (i : EntryAt) (d : Cursor) (f : Found l w c i d) where
    last_on : last_of (entry_of l w i).key (keys (entries l w d)) ≡ last_of x.key (keys (entries l w c))
    unfolding last_of
    last_on = ap (λ (es : List Entry). last_of x.key (keys es)) (sym f.list)

    pub risen_turn : above x (entry_of l w i) ≡ true → Rising l w x₀ c₀ (entry_of l w i) d (n + 1)
    risen_turn e =
        record {
          goes = rising-on l w x c i d f e ∙ h.goes;
          last = last_on ∙ h.last;
          all = omega (arith, h.all, ap length f.list);
          left = omega (arith, h.left, f.falls);
        }

-- the count stays a number that a usize holds
pub left-long : (l w : List ℕ) (c : Cursor) → left_of l w c ≤ length l + 562949953421312
unfolding left_of
left-long l w c = go (eqb c.source 2)
  where
    go : (t : Bool) → cond t (pages_left c) (length l - c.at) ≤ length l + 562949953421312
    go true = omega (arith, left-small c)
    go false = omega arith

-- What a sound page says rises: each key above the one before, each history growing older; and so do two pages whose boundaries meet.
-- Assumes nothing.
use Prim.Native.Nat.{ℕ, zero, suc, ◌+◌, ◌≤◌, ◌<◌}
use mathlib.Core.Path.{◌≡◌, refl, sym, ap, ◌∙◌, subst}
use mathlib.Core.Bool.{Bool, true, false, cond}
use mathlib.Core.List.{List, [], ◌∷◌, ◌++◌, map, append_assoc}
use native.Mathlib.Omega.{arith}
use Rattle.order.specs.declared.Ver.{Ver}
use Rattle.order.specs.Order.{cmp_bytes}
use Rattle.order.specs.Bounds.{below_hi, in_bounds, all_in_bounds, bounded, meet}
use Rattle.order.specs.Version.{newer_than}
use Rattle.order.proofs.Laws.{cmp_same}
use Rattle.order.proofs.Bounds.{both, both_first, both_second, apart_keys, bounded-append}
use Rattle.frames.specs.declared.Addr.{Addr}
use Rattle.frames.specs.declared.Body.{Body}
use Rattle.values.specs.Keys.{ver_in}
use Rattle.records.specs.declared.Rec.{Rec}
use Rattle.records.specs.Records.{rec_at}
use Rattle.pages.specs.Sound.{slots_ok, chain_from, chains_ok}
use Rattle.pages.specs.Meaning.{Older, Head, Child, Rows, leaf, index, Page, says, keys_of, key_of, olds_from, head_of, child_of, rows_from, heads_from, meaning}
use Rattle.pages.proofs.Given.{sound_given, every_slot, keys_rise, every_head, head_given, link_given}
use Rattle.pages.proofs.Rows.{rows_more}
use Rattle.walks.specs.Listed.{Entry as Listed, older_entries, entries_of}
use Rattle.walks.proofs.Says.{is_leaf, is_index_lem}
use Rattle.build_sources.specs.Source.{Entry}
use Rattle.build_sources.specs.Marks.{Each}
use Rattle.build_sources.specs.Judged.{above_by, above, rising_from, rising, enclosed}
use Rattle.law_rows.specs.Pairs.{bare, child}
use Rattle.law_history.specs.Rows.{Up, UpAll}
use Rattle.law_rows.proofs.Entries.{map_append}
use Rattle.law_rows.proofs.Carried.{each_append}
use Rattle.std.proofs.Common.{Some}
use Rattle.std.specs.declared.cmp.Ordering.{Ordering}

abbrev head_key : Head → List ℕ
head_key h = h.key

abbrev child_key : Child → List ℕ
child_key c = c.key

-- ---- what a sound page says

-- "versions of a key grow strictly older", from version t on
unfoldable Ages : Ver → List Older → Type 0
Ages t [] = Unit {0}
Ages t (o ∷ os) = (newer_than t o.ver ≡ true) × Ages o.ver os

abbrev HeadAges : Head → Type 0
HeadAges h = Ages h.ver h.olds

olds_age : (s : List ℕ) (n : ℕ) (a : Addr) (i : ℕ) (t : Ver) → chain_from s n a i t ≡ true → Ages t (olds_from s n a i)
unfolding Ages olds_from
olds_age s zero a i t e = tt
olds_age s (suc n) a i t e =
    let g = link_given s n a i t e in
    rw g.read (g.older, olds_age s n g.page (g.slot + 1) (ver_in s g.rec.ver_at) g.more)

module _ (s : List ℕ) (b : Body) (e : slots_ok s b ≡ true) (n : b.kind ≡ 2 → ⊥) where
  rows_up : {A : Type 0} (f : Rec → A) (key : A → List ℕ) → ((r : Rec) → key (f r) ≡ key_of s b r) → (k i : ℕ) (r : Rec) → rec_at s b i ≡ Some r → i + k < b.elems → Up key (key_of s b r) (rows_from f s b k (i + 1))
  unfolding Up rows_from
  rows_up f key same zero i r q h = tt
  rows_up f key same (suc k) i r q h =
      let g = every_slot s b e (i + 1) (omega arith) in
      subst (Up key (key_of s b r)) (sym (rows_more f s b k (i + 1) g.0 g.1)) (
        ap (cmp_bytes (key_of s b r)) (same g.0) ∙ keys_rise s b e n i (omega arith) r g.0 q g.1,
        subst (λ (x : List ℕ). Up key x (rows_from f s b k (i + 1 + 1))) (sym (same g.0)) (rows_up f key same k (i + 1) g.0 g.1 (omega arith)),
      )

  all_up : {A : Type 0} (f : Rec → A) (key : A → List ℕ) → ((r : Rec) → key (f r) ≡ key_of s b r) → (k : ℕ) → k ≤ b.elems → UpAll key (rows_from f s b k 0)
  unfolding UpAll rows_from
  all_up f key same zero h = tt
  all_up f key same (suc k) h =
      let g = every_slot s b e 0 (omega arith) in
      subst (UpAll key) (sym (rows_more f s b k 0 g.0 g.1))
      (subst (λ (x : List ℕ). Up key x (rows_from f s b k 1)) (sym (same g.0)) (rows_up f key same k 0 g.0 g.1 (omega arith)))

  heads_age : chains_ok s b ≡ true → (b.kind ≡ 1 → ⊥) → (k i : ℕ) → i + k ≤ b.elems → Each HeadAges (heads_from s b k i)
  unfolding Each rows_from head_of
  heads_age c m zero i h = tt
  heads_age c m (suc k) i h =
      let g = every_slot s b e i (omega arith) in
      subst (Each HeadAges) (sym (rows_more (head_of s b) s b k i g.0 g.1)) (
        olds_age s g.0.hist.count g.0.hist.page g.0.hist.slot (ver_in s g.0.ver_at) (head_given s g.0 (every_head s b c m i (omega arith) g.0 g.1)).1,
        heads_age c m k (i + 1) (omega arith),
      )

-- heads in order: keys rise, and behind each its versions grow older
record Climbs (hs : List Head) : Type 0 where
  keys : UpAll head_key hs
  ages : Each HeadAges hs

module _ (s : List ℕ) (a : Addr) (p : Page) (m : meaning s a ≡ says p) where
  leaf_climbs : (hs : List Head) → p.rows ≡ leaf hs → Climbs hs
  unfolding head_of
  leaf_climbs hs e =
      let l = is_leaf s a p m hs e in
      let b = l.sound.body in
      subst Climbs l.heads
      (record {
        keys = all_up s b l.sound.slots l.sound.kind (head_of s b) head_key (λ r. refl) b.elems (omega arith);
        ages = heads_age s b l.sound.slots l.sound.kind l.sound.chains (λ q. omega (arith, l.kind, q)) b.elems 0 (omega arith);
      })

  index_climbs : (cs : List Child) → p.rows ≡ index cs → UpAll child_key cs
  unfolding child_of
  index_climbs cs e =
      let l = is_index_lem s a p m cs e in
      let b = l.sound.body in
      subst (UpAll child_key) l.children (all_up s b l.sound.slots l.sound.kind (child_of s b) child_key (λ r. refl) b.elems (omega arith))

-- ---- one behind the other, where the boundaries meet

module _ {A : Type 0} (key : A → List ℕ) (lo hi mid top : List ℕ) (m : meet hi mid ≡ true) where
  up_append : (k : List ℕ) (xs ys : List A) → in_bounds lo hi k ≡ true → all_in_bounds lo hi (map key xs) ≡ true → all_in_bounds mid top (map key ys) ≡ true → Up key k xs → UpAll key ys → Up key k (xs ++ ys)
  unfolding Up UpAll all_in_bounds
  up_append k [] [] i e f u v = tt
  up_append k [] (y ∷ ys) i e f u v = (apart_keys lo hi mid top k (key y) m i (both_first (in_bounds mid top (key y)) _ f), v)
  up_append k (x ∷ xs) ys i e f u v =
      (u.0, up_append (key x) xs ys (both_first (in_bounds lo hi (key x)) _ e) (both_second (in_bounds lo hi (key x)) _ e) f u.1 v)

  all_append : (xs ys : List A) → all_in_bounds lo hi (map key xs) ≡ true → all_in_bounds mid top (map key ys) ≡ true → UpAll key xs → UpAll key ys → UpAll key (xs ++ ys)
  unfolding UpAll all_in_bounds
  all_append [] ys e f u v = v
  all_append (x ∷ xs) ys e f u v = up_append (key x) xs ys (both_first (in_bounds lo hi (key x)) _ e) (both_second (in_bounds lo hi (key x)) _ e) f u v

-- ---- records in order

abbrev above_it : Listed → Listed → Type 0
above_it a b = above_by (cmp_bytes a.key b.key) a.ver b.ver ≡ true

unfoldable RiseFrom : Listed → List Listed → Type 0
RiseFrom a [] = Unit {0}
RiseFrom a (b ∷ bs) = above_it a b × RiseFrom b bs

unfoldable Rise : List Listed → Type 0
unfolding RiseFrom
Rise [] = Unit {0}
Rise (a ∷ bs) = RiseFrom a bs

less-above : (a b : Listed) → cmp_bytes a.key b.key ≡ Ordering.Less → above_it a b
less-above a b e = ap (λ (o : Ordering). above_by o a.ver b.ver) e

-- an old version behind one of its key
older-above : (a : Listed) (v : Ver) (x : List ℕ) → newer_than a.ver v ≡ true → above_it a (record { key = a.key; ver = v; value = x })
older-above a v x e = ap (λ (o : Ordering). above_by o a.ver v) (cmp_same a.key) ∙ e

olds_rise : (k : List ℕ) (os : List Older) (rest : List Listed) (v : Ver) (x : List ℕ) → Ages v os → ((u : Ver) (y : List ℕ) → RiseFrom (record { key = k; ver = u; value = y }) rest)
    → RiseFrom (record { key = k; ver = v; value = x }) (older_entries k os ++ rest)
unfolding Ages RiseFrom older_entries
olds_rise k [] rest v x a f = f v x
olds_rise k (o ∷ os) rest v x a f =
    (older-above (record { key = k; ver = v; value = x }) o.ver o.value a.0, olds_rise k os rest o.ver o.value a.1 f)

heads_rise : (k : List ℕ) (hs : List Head) → Up head_key k hs → Each HeadAges hs → (v : Ver) (x : List ℕ) → RiseFrom (record { key = k; ver = v; value = x }) (entries_of hs)
unfolding Up Each RiseFrom entries_of
heads_rise k [] u a v x = tt
heads_rise k (h ∷ hs) u a v x = (
  less-above (record { key = k; ver = v; value = x }) (record { key = h.key; ver = h.ver; value = h.value }) u.0,
  olds_rise h.key h.olds (entries_of hs) h.ver h.value a.0 (heads_rise h.key hs u.1 a.1),
)

all_rise : (hs : List Head) → UpAll head_key hs → Each HeadAges hs → Rise (entries_of hs)
unfolding UpAll Each Rise entries_of
all_rise [] u a = tt
all_rise (h ∷ hs) u a = olds_rise h.key h.olds (entries_of hs) h.ver h.value a.0 (heads_rise h.key hs u a.1)

-- ---- and the entries that say them

rises-from : (e : Entry) (es : List Entry) → RiseFrom (bare e) (map bare es) → rising_from e es ≡ true
unfolding RiseFrom bare rising_from above
rises-from e [] r = refl
rises-from e (f ∷ es) r = ap (λ (t : Bool). cond t (rising_from f es) false) r.0 ∙ rises-from f es r.1

rise_rising : (es : List Entry) → Rise (map bare es) → rising es ≡ true
unfolding Rise rising
rise_rising [] r = refl
rise_rising (e ∷ es) r = rises-from e es r

up_from : (e : Entry) (es : List Entry) → Up child_key e.key (map child es) → rising_from e es ≡ true
unfolding Up child rising_from above
up_from e [] r = refl
up_from e (f ∷ es) r = ap (λ (t : Bool). cond t (rising_from f es) false) (ap (λ (o : Ordering). above_by o e.ver f.ver) r.0) ∙ up_from f es r.1

up_rising : (es : List Entry) → UpAll child_key (map child es) → rising es ≡ true
unfolding UpAll rising child
up_rising [] r = refl
up_rising (e ∷ es) r = up_from e es r

entries-append : (hs ks : List Head) → entries_of (hs ++ ks) ≡ entries_of hs ++ entries_of ks
unfolding entries_of
entries-append [] ks = refl
entries-append (h ∷ hs) ks =
    ap (λ (l : List Listed). (record { key = h.key; ver = h.ver; value = h.value }) ∷ l)
    (ap (λ (l : List Listed). older_entries h.key h.olds ++ l) (entries-append hs ks) ∙ sym (append_assoc (older_entries h.key h.olds) (entries_of hs) (entries_of ks)))

-- ---- two leaves, two index pages

abbrev record_key : Listed → List ℕ
record_key r = r.key

-- a head's old versions lie where it does
olds_in : (lo hi k : List ℕ) (os : List Older) (rest : List Listed) → in_bounds lo hi k ≡ true → all_in_bounds lo hi (map record_key rest) ≡ true → all_in_bounds lo hi (map record_key (older_entries k os ++ rest)) ≡ true
unfolding older_entries all_in_bounds
olds_in lo hi k [] rest i e = e
olds_in lo hi k (o ∷ os) rest i e = both (in_bounds lo hi k) (all_in_bounds lo hi (map record_key (older_entries k os ++ rest))) i (olds_in lo hi k os rest i e)

records_in : (lo hi : List ℕ) (hs : List Head) → all_in_bounds lo hi (map head_key hs) ≡ true → all_in_bounds lo hi (map record_key (entries_of hs)) ≡ true
unfolding entries_of all_in_bounds
records_in lo hi [] e = refl
records_in lo hi (h ∷ hs) e =
    let i = both_first (in_bounds lo hi h.key) (all_in_bounds lo hi (map head_key hs)) e in
    let r = records_in lo hi hs (both_second (in_bounds lo hi h.key) (all_in_bounds lo hi (map head_key hs)) e) in
    both (in_bounds lo hi h.key) (all_in_bounds lo hi (map record_key (older_entries h.key h.olds ++ entries_of hs))) i (olds_in lo hi h.key h.olds (entries_of hs) i r)

bounded-records : (lo hi : List ℕ) (hs : List Head) → bounded lo hi (map head_key hs) ≡ true → bounded lo hi (map record_key (entries_of hs)) ≡ true
unfolding bounded
bounded-records lo hi hs e =
    both (below_hi lo hi) (all_in_bounds lo hi (map record_key (entries_of hs))) (both_first (below_hi lo hi) (all_in_bounds lo hi (map head_key hs)) e)
    (records_in lo hi hs (both_second (below_hi lo hi) (all_in_bounds lo hi (map head_key hs)) e))

map_map : {A B C : Type 0} (f : A → B) (g : B → C) (xs : List A) → map g (map f xs) ≡ map (λ (x : A). g (f x)) xs
map_map f g [] = refl
map_map {A = A} {C = C} f g (x ∷ xs) = ap (λ (l : List C). g (f x) ∷ l) (map_map f g xs)

bare-keys : (es : List Entry) → map record_key (map bare es) ≡ map (λ (e : Entry). e.key) es
unfolding bare
bare-keys es = map_map bare record_key es

child-keys : (es : List Entry) → map child_key (map child es) ≡ map (λ (e : Entry). e.key) es
unfolding child
child-keys es = map_map child child_key es

inside_of : (lo hi : List ℕ) (ks : List (List ℕ)) → bounded lo hi ks ≡ true → all_in_bounds lo hi ks ≡ true
unfolding bounded
inside_of lo hi ks e = both_second (below_hi lo hi) (all_in_bounds lo hi ks) e

-- a page's entries lie between its boundaries
module _ (s : List ℕ) (a : Addr) (p : Page) (m : meaning s a ≡ says p) (es : List Entry) where
  pub leaf_inside : (hs : List Head) → p.rows ≡ leaf hs → map bare es ≡ entries_of hs → enclosed p.lo p.hi es ≡ true
  leaf_inside hs e same =
      let b : bounded p.lo p.hi (map head_key hs) ≡ true = sym (ap (λ (rs : Rows). bounded p.lo p.hi (keys_of rs)) e) ∙ (sound_given s a p m).bounded in
      ap (bounded p.lo p.hi) (sym (bare-keys es) ∙ ap (map record_key) same) ∙ bounded-records p.lo p.hi hs b

  pub index_inside : (cs : List Child) → p.rows ≡ index cs → map child es ≡ cs → enclosed p.lo p.hi es ≡ true
  index_inside cs e same =
      let b : bounded p.lo p.hi (map child_key cs) ≡ true = sym (ap (λ (rs : Rows). bounded p.lo p.hi (keys_of rs)) e) ∙ (sound_given s a p m).bounded in
      ap (bounded p.lo p.hi) (sym (child-keys es) ∙ ap (map child_key) same) ∙ b

-- what a merge takes from pages whose boundaries meet: in order, and enclosed
pub record InOrder (lo top : List ℕ) (es : List Entry) : Type 0 where
  pub rises : rising es ≡ true
  pub inside : enclosed lo top es ≡ true

module _ (s : List ℕ) (left right : Addr) (p q : Page) (m : meaning s left ≡ says p) (n : meaning s right ≡ says q) (met : meet p.hi q.lo ≡ true) (es : List Entry) where
  pub leaves-meet : (hs ks : List Head) → p.rows ≡ leaf hs → q.rows ≡ leaf ks → map bare es ≡ entries_of hs ++ entries_of ks → InOrder p.lo q.hi es
  leaves-meet hs ks e f same =
      let l = leaf_climbs s left p m hs e in
      let r = leaf_climbs s right q n ks f in
      let lb : bounded p.lo p.hi (map head_key hs) ≡ true = sym (ap (λ (rs : Rows). bounded p.lo p.hi (keys_of rs)) e) ∙ (sound_given s left p m).bounded in
      let rb : bounded q.lo q.hi (map head_key ks) ≡ true = sym (ap (λ (rs : Rows). bounded q.lo q.hi (keys_of rs)) f) ∙ (sound_given s right q n).bounded in
      let up = all_append head_key p.lo p.hi q.lo q.hi met hs ks (inside_of p.lo p.hi (map head_key hs) lb) (inside_of q.lo q.hi (map head_key ks) rb) l.keys r.keys in
      let all : map bare es ≡ entries_of (hs ++ ks) = same ∙ sym (entries-append hs ks) in
      let keys : map (λ (x : Entry). x.key) es ≡ map record_key (entries_of hs) ++ map record_key (entries_of ks) =
      sym (bare-keys es) ∙ ap (map record_key) same ∙ map_append record_key (entries_of hs) (entries_of ks) in
      record {
        rises = rise_rising es (subst Rise (sym all) (all_rise (hs ++ ks) up (each_append HeadAges hs ks l.ages r.ages)));
        inside =
            ap (bounded p.lo q.hi) keys
            ∙ bounded-append p.lo p.hi q.lo q.hi met (map record_key (entries_of hs)) (map record_key (entries_of ks)) (bounded-records p.lo p.hi hs lb) (bounded-records q.lo q.hi ks rb);
      }

  pub indexes-meet : (cs ds : List Child) → p.rows ≡ index cs → q.rows ≡ index ds → map child es ≡ cs ++ ds → InOrder p.lo q.hi es
  indexes-meet cs ds e f same =
      let lb : bounded p.lo p.hi (map child_key cs) ≡ true = sym (ap (λ (rs : Rows). bounded p.lo p.hi (keys_of rs)) e) ∙ (sound_given s left p m).bounded in
      let rb : bounded q.lo q.hi (map child_key ds) ≡ true = sym (ap (λ (rs : Rows). bounded q.lo q.hi (keys_of rs)) f) ∙ (sound_given s right q n).bounded in
      let up = all_append child_key p.lo p.hi q.lo q.hi met cs ds (inside_of p.lo p.hi (map child_key cs) lb) (inside_of q.lo q.hi (map child_key ds) rb) (index_climbs s left p m cs e) (index_climbs s right q n ds f) in
      let keys : map (λ (x : Entry). x.key) es ≡ map child_key cs ++ map child_key ds = sym (child-keys es) ∙ ap (map child_key) same ∙ map_append child_key cs ds in
      record {
        rises = up_rising es (subst (UpAll child_key) (sym same) up);
        inside = ap (bounded p.lo q.hi) keys ∙ bounded-append p.lo p.hi q.lo q.hi met (map child_key cs) (map child_key ds) lb rb;
      }

-- The pass over the head records: storing what is still to come gives the whole; the locator tells each head's place.
-- Assumes nothing.
use mathlib.Core.Path.{◌≡◌, refl, sym, ap, ◌∙◌, subst}
use mathlib.Core.List.{List, [], ◌∷◌, ◌++◌}
use mathlib.Core.Bool.{Bool, true, false, not, cond}
use Prim.Native.Nat.{ℕ, zero, suc, ◌+◌, ◌≤◌, ◌<◌}
use native.Mathlib.Nat.{add-zero}
use native.Mathlib.Omega.{arith}
use borrow.Author.Tests.{lt-ltb}
use lib.Dec.{ltb}
use lib.ListN.{length, take, drop, length-append}
use Rattle.spans.specs.Span.{put}
use Rattle.spans.proofs.Put.{put_nil}
use Rattle.spans.proofs.Writing.{Writing, begin, wrote, finished, front}
use Rattle.frames.specs.Limits.{max_entries}
use Rattle.values.specs.declared.HistRef.{HistRef}
use Rattle.values.specs.Vals.{hist_of, hist_bytes, flag_of, front_bytes, inline_bytes, remote_bytes, size_of}
use Rattle.build_sources.specs.declared.Cursor.{Cursor}
use Rattle.build_sources.specs.declared.EntryAt.{EntryAt}
use Rattle.build_sources.specs.Source.{Entry, Placed, entry_of, entries, only, olds, heads}
use Rattle.build_sources.proofs.Sourced.{Found}
use Rattle.build_image.specs.declared.Call.{Call}
use Rattle.build_image.specs.Sizes.{remote_len, key_len, old_run, remotes_len}
use Rattle.build_image.specs.Image.{places, history_end, cuts_of, ref_of, val_bytes, head_rec, head_recs, any, PageSlot}
use Rattle.build_image.proofs.Leaf.{length_head}
use Rattle.build_history.specs.Runs.{Sane}
use Rattle.build_heads.specs.declared.Loc.{Loc}
use Rattle.build_heads.specs.Steps.{Long}
use Rattle.build_heads.specs.Located.{places_at, end_at, Settled, onward_of, rec_if, remote_if, run_if, named_by}
use Rattle.build_heads.proofs.Slots.{key-is, val_is}
use Rattle.build_heads.proofs.Locating.{at_hand, end_on, some_left, first-places, first-end}

-- ---- one entry's record, or none

module _ (a : List ℕ) (at limit p remote : ℕ) (h : HistRef) (e : Entry) where
  pub rec_none : e.old ≡ true → (at ≡ at + length (rec_if limit p remote h e)) × (a ≡ put a at (rec_if limit p remote h e))
  unfolding rec_if
  rec_none q = rw q (omega arith, sym (put_nil a at))

  pub rec_head : e.old ≡ false → rec_if limit p remote h e ≡ head_rec limit p remote h e
  unfolding rec_if
  rec_head q = rw q

  pub rec-room : e.old ≡ false → at + length (rec_if limit p remote h e) ≤ length a → at + length (head_rec limit p remote h e) ≤ length a
  rec-room q r = rw (rec_head q) at r

  pub rec_one : e.old ≡ false → (n : ℕ) (a₁ : List ℕ) → n ≡ length (head_rec limit p remote h e) → a₁ ≡ put a at (head_rec limit p remote h e)
      → (at + n ≡ at + length (rec_if limit p remote h e)) × (a₁ ≡ put a at (rec_if limit p remote h e))
  rec_one q n a₁ en ea = rw (rec_head q) (ap (λ (k : ℕ). at + k) en, ea)

-- its length in the words of the calls
pub some-any : (k : ℕ) → ltb 0 k ≡ any k
some-any zero = refl
some-any (suc k) = lt-ltb 0 (suc k) (omega arith)

pub rec-long : (l w : List ℕ) (i : EntryAt) → Placed l w i → (limit p remote : ℕ) (h : HistRef) (x y : ℕ) (b : Bool) → x ≡ key_len p (i.key.plen + i.key.klen) → y ≡ size_of b limit i.vlen → b ≡ any h.count
    → x + y ≡ length (head_rec limit p remote h (entry_of l w i))
rec-long l w i q limit p remote h x y b ex ey eb =
    rw (ex, ey, eb) (sym (length_head limit p remote h (entry_of l w i) ∙ rw (key-is l w i q [] limit p, val_is l w i q [] limit p)))

-- ---- what an entry names, and its frame

pub remote_none : (b : Bool) (limit n kept : ℕ) → b ≡ true → 0 ≡ remote_if b limit n kept
unfolding remote_if
remote_none b limit n kept e = rw e

pub remote-one : (b : Bool) (limit n kept : ℕ) → b ≡ false → (r : ℕ) → r ≡ remote_len limit n kept → r ≡ remote_if b limit n kept
unfolding remote_if
remote-one b limit n kept e r q = rw e q

-- ---- all records, by the first entry

abbrev pub drop_if : Bool → List PageSlot → List PageSlot
drop_if true ps = drop 1 ps
drop_if false ps = ps

pub recs_step : (limit p remote : ℕ) (ps : List PageSlot) (e : Entry) (es : List Entry)
    → head_recs limit p remote ps (e ∷ es)
    ≡ rec_if limit p remote (ref_of ps (run_if e.old (old_run es))) e ++ head_recs limit p (remote + remote_if e.old limit (length e.val) e.kept) (drop_if e.old ps) es
unfolding head_recs rec_if remote_if
recs_step limit p remote ps e es = go e.old (remote_len limit (length e.val) e.kept)
  where
    go : (b : Bool) (n : ℕ)
        → cond b (head_recs limit p remote (drop 1 ps) es) (head_rec limit p remote (ref_of ps (old_run es)) e ++ head_recs limit p (remote + n) ps es)
        ≡ cond b [] (head_rec limit p remote (ref_of ps (run_if b (old_run es))) e) ++ head_recs limit p (remote + cond b 0 n) (drop_if b ps) es
    go true n = ap (λ (k : ℕ). head_recs limit p k (drop 1 ps) es) (sym (add-zero remote))
    go false n = refl

olds-old : (e : Entry) (es : List Entry) → e.old ≡ true → olds (e ∷ es) ≡ e ∷ olds es
unfolding only
olds-old e es q = rw q

olds_head : (e : Entry) (es : List Entry) → e.old ≡ false → olds (e ∷ es) ≡ olds es
unfolding only
olds_head e es q = rw q

-- without old versions nothing of a place is stored
zero_ref : (limit p remote : ℕ) (ps : List PageSlot) (x y : ℕ) (e : Entry) → head_rec limit p remote (ref_of ps 0) e ≡ head_rec limit p remote (hist_of x y 0) e
unfolding head_rec val_bytes inline_bytes remote_bytes front_bytes hist_bytes flag_of
zero_ref limit p remote [] x y e = refl
zero_ref limit p remote (q ∷ ps) x y e = refl

positive : (n : ℕ) → (n ≡ 0 → ⊥) → 0 < n
positive n h = omega (arith, h)

-- a head with old versions behind it has one in front
run-some : (es : List Entry) (k : ℕ) → suc k ≡ old_run es → olds es ≡ [] → ⊥
unfolding old_run only
run-some [] k q n = omega (arith, q)
run-some (x ∷ es) k q n = go x.old q n
  where
    go : (b : Bool) → suc k ≡ cond b (suc (old_run es)) 0 → cond b (x ∷ olds es) (olds es) ≡ [] → ⊥
    go true q n = let z : ◌≡◌ {A = ℕ} 0 1 = cc in omega arith
    go false q n = omega (arith, q)

ref_hand : (limit budget : ℕ) (os : List Entry) (q : Loc) (k : ℕ) → (os ≡ [] → ⊥) → 0 < q.left → ref_of (places_at limit budget q os) k ≡ hist_of q.page q.slot k
ref_hand limit budget [] q k n h = absurd (n refl)
ref_hand limit budget (x ∷ os) q k n h = ap (λ (ps : List PageSlot). ref_of ps k) (at_hand limit budget x os q h)

module _ (limit budget : ℕ) (e : Entry) (es : List Entry) (loc q : Loc) where
  -- the places behind this entry
  pub places-on : (b : Bool) → e.old ≡ b → (k : ℕ) → Settled limit budget (olds (e ∷ es)) (named_by b k) loc q
      → drop_if b (places_at limit budget loc (olds (e ∷ es))) ≡ places_at limit budget (onward_of b q) (olds es)
  places-on true eb k s =
      let s₁ : Settled limit budget (e ∷ olds es) true loc q = rw (olds-old e es eb) at s in
      ap (λ (os : List Entry). drop 1 (places_at limit budget loc os)) (olds-old e es eb)
      ∙ ap (drop 1) (sym s₁.same ∙ at_hand limit budget e (olds es) q (some_left limit budget e (olds es) true loc q s₁ refl))
  places-on false eb k s = sym s.same ∙ ap (places_at limit budget q) (olds_head e es eb)

  pub ends_on : (b : Bool) → e.old ≡ b → (k : ℕ) → Settled limit budget (olds (e ∷ es)) (named_by b k) loc q → end_at limit budget loc (olds (e ∷ es)) ≡ end_at limit budget (onward_of b q) (olds es)
  ends_on true eb k s =
      let s₁ : Settled limit budget (e ∷ olds es) true loc q = rw (olds-old e es eb) at s in
      ap (end_at limit budget loc) (olds-old e es eb) ∙ sym s₁.ends ∙ end_on limit budget e (olds es) q (some_left limit budget e (olds es) true loc q s₁ refl)
  ends_on false eb k s = sym s.ends ∙ ap (end_at limit budget q) (olds_head e es eb)

  pub left-on : (b : Bool) → e.old ≡ b → (k : ℕ) → Settled limit budget (olds (e ∷ es)) (named_by b k) loc q → b ≡ true → 1 ≤ q.left
  left-on true eb k s t =
      let s₁ : Settled limit budget (e ∷ olds es) true loc q = rw (olds-old e es eb) at s in
      some_left limit budget e (olds es) true loc q s₁ refl
  left-on false eb k s t = absurd (let z : ◌≡◌ {A = ℕ} 0 1 = cc in omega arith)

  pub slots-on : (b : Bool) → (b ≡ true → 1 ≤ q.left) → q.slot + q.left ≤ max_entries → (onward_of b q).slot + (onward_of b q).left ≤ max_entries
  slots-on true l h = let z = l refl in omega arith
  slots-on false l h = h

  -- the reference that the locator gives is the one named
  pub ref-on : (p remote : ℕ) (b : Bool) → e.old ≡ b → (k : ℕ) → k ≡ run_if b (old_run es) → Settled limit budget (olds (e ∷ es)) (named_by b k) loc q
      → rec_if limit p remote (ref_of (places_at limit budget loc (olds (e ∷ es))) k) e ≡ rec_if limit p remote (hist_of q.page q.slot k) e
  unfolding rec_if
  ref-on p remote true eb k ek s = rw eb
  ref-on p remote false eb zero ek s = ap (λ (x : List ℕ). cond e.old [] x) (zero_ref limit p remote (places_at limit budget loc (olds (e ∷ es))) q.page q.slot e)
  ref-on p remote false eb (suc k) ek s =
      let n : olds (e ∷ es) ≡ [] → ⊥ = λ z. run-some es k ek (sym (olds_head e es eb) ∙ z) in
      let r : ref_of (places_at limit budget loc (olds (e ∷ es))) (suc k) ≡ hist_of q.page q.slot (suc k) =
      ap (λ (ps : List PageSlot). ref_of ps (suc k)) (sym s.same) ∙ ref_hand limit budget (olds (e ∷ es)) q (suc k) n (positive q.left (λ z. n (s.some refl z))) in
      ap (λ (h : HistRef). cond e.old [] (head_rec limit p remote h e)) r

  pub recs_open : (p remote : ℕ) (b : Bool) → e.old ≡ b → (n kept : ℕ) → length e.val ≡ n → e.kept ≡ kept → (k : ℕ) → k ≡ run_if b (old_run es) → Settled limit budget (olds (e ∷ es)) (named_by b k) loc q
      → head_recs limit p remote (places_at limit budget loc (olds (e ∷ es))) (e ∷ es)
      ≡ rec_if limit p remote (hist_of q.page q.slot k) e ++ head_recs limit p (remote + remote_if b limit n kept) (places_at limit budget (onward_of b q) (olds es)) es
  recs_open p remote b eb n kept en ep k ek s =
      let ps = places_at limit budget loc (olds (e ∷ es)) in
      recs_step limit p remote ps e es
      ∙ ap (λ (o : Bool). rec_if limit p remote (ref_of ps (run_if o (old_run es))) e ++ head_recs limit p (remote + remote_if o limit (length e.val) e.kept) (drop_if o ps) es) eb
      ∙ ap (λ (x : ℕ). rec_if limit p remote (ref_of ps (run_if b (old_run es))) e ++ head_recs limit p (remote + remote_if b limit x e.kept) (drop_if b ps) es) en
      ∙ ap (λ (x : ℕ). rec_if limit p remote (ref_of ps (run_if b (old_run es))) e ++ head_recs limit p (remote + remote_if b limit n x) (drop_if b ps) es) ep
      ∙ ap (λ (x : ℕ). rec_if limit p remote (ref_of ps x) e ++ head_recs limit p (remote + remote_if b limit n kept) (drop_if b ps) es) (sym ek)
      ∙ ap (λ (x : List ℕ). x ++ head_recs limit p (remote + remote_if b limit n kept) (drop_if b ps) es) (ref-on p remote b eb k ek s)
      ∙ ap (λ (x : List PageSlot). rec_if limit p remote (hist_of q.page q.slot k) e ++ head_recs limit p (remote + remote_if b limit n kept) x es) (places-on b eb k s)

-- ---- the pass

remote_by : (b : Bool) (limit n : ℕ) (e : Entry) (hs : List Entry) → remotes_len limit (cond (not b) (e ∷ hs) hs) ≡ cond b 0 (remote_len limit (length e.val) e.kept) + remotes_len limit hs
unfolding remotes_len
remote_by true limit n e hs = omega arith
remote_by false limit n e hs = refl

remotes_step : (limit : ℕ) (e : Entry) (es : List Entry) → remotes_len limit (heads (e ∷ es)) ≡ remote_if e.old limit (length e.val) e.kept + remotes_len limit (heads es)
unfolding only remote_if
remotes_step limit e es = remote_by e.old limit 0 e (heads es)

run-few : (es : List Entry) → old_run es ≤ length es
unfolding old_run
run-few [] = omega arith
run-few (x ∷ es) = go x.old (run-few es)
  where
    go : (b : Bool) → old_run es ≤ length es → cond b (suc (old_run es)) 0 ≤ suc (length es)
    go true h = omega arith
    go false h = omega arith

run_if_few : (b : Bool) (k n : ℕ) → k ≤ n → run_if b k ≤ n
run_if_few true k n h = omega arith
run_if_few false k n h = h

pub record Recording (a₀ l : List ℕ) (footing : ℕ) (whole : List ℕ) (p : ℕ) (m : Call) (end : ℕ) (a : List ℕ) (c : Cursor) (to remote : ℕ) (loc : Loc) : Type 0 where
  pub writing : Writing a₀ footing whole a to (head_recs m.limit p remote (places_at m.limit m.budget loc (olds (entries l (take footing a₀) c))) (entries l (take footing a₀) c))
  pub last : to + length (head_recs m.limit p remote (places_at m.limit m.budget loc (olds (entries l (take footing a₀) c))) (entries l (take footing a₀) c)) ≡ end
  pub long : Long p (entries l (take footing a₀) c)
  pub few : length (entries l (take footing a₀) c) ≤ max_entries
  pub ends : end_at m.limit m.budget loc (olds (entries l (take footing a₀) c)) ≤ length a₀
  pub away : remote + remotes_len m.limit (heads (entries l (take footing a₀) c)) ≤ length a₀
  pub slots : loc.slot + loc.left ≤ max_entries

nil_recs : (limit p remote : ℕ) (ps : List PageSlot) (es : List Entry) → es ≡ [] → head_recs limit p remote ps es ≡ []
unfolding head_recs
nil_recs limit p remote ps es e = rw e refl

-- the locator at the first page
pub recs_begin : (a l : List ℕ) (footing p : ℕ) (m : Call) (at first remote : ℕ) (c : Cursor) → footing ≤ at
    → Long p (entries l (take footing a) c)
    → length (entries l (take footing a) c) ≤ max_entries
    → history_end m.limit first (cuts_of m (entries l (take footing a) c)) (olds (entries l (take footing a) c)) ≤ length a
    → remote + remotes_len m.limit (heads (entries l (take footing a) c)) ≤ length a
    → at + length (head_recs m.limit p remote (places m.limit first (cuts_of m (entries l (take footing a) c)) (olds (entries l (take footing a) c))) (entries l (take footing a) c)) ≤ length a
    → Recording a l footing (put a at (head_recs m.limit p remote (places m.limit first (cuts_of m (entries l (take footing a) c)) (olds (entries l (take footing a) c))) (entries l (take footing a) c))) p m
    (at + length (head_recs m.limit p remote (places m.limit first (cuts_of m (entries l (take footing a) c)) (olds (entries l (take footing a) c))) (entries l (take footing a) c)))
    a c at remote (record { page = 0; slot = 0; left = 0; next = first })
recs_begin a l footing p m at first remote c o lo fe en aw ro =
    let os = olds (entries l (take footing a) c) in
    record {
      writing = rw (first-places m.limit m.budget first os) (begin a footing at _ o ro);
      last = rw (first-places m.limit m.budget first os) refl;
      long = lo;
      few = fe;
      ends = rw (first-end m.limit m.budget first os) en;
      away = aw;
      slots = omega arith;
    }

pub old_of : (l w : List ℕ) (i : EntryAt) → (entry_of l w i).old ≡ i.old
unfolding entry_of
old_of l w i = refl

kept_of : (l w : List ℕ) (i : EntryAt) → (entry_of l w i).kept ≡ i.kept.0
unfolding entry_of
kept_of l w i = refl

module _ (a₀ l : List ℕ) (footing : ℕ) (whole : List ℕ) (p : ℕ) (m : Call) (end : ℕ) (a : List ℕ) (c : Cursor) (to remote : ℕ) (loc : Loc) (h : Recording a₀ l footing whole p m end a c to remote loc) where
  pub recs-end : entries l (take footing a₀) c ≡ [] → (to ≡ end) × (a ≡ whole)
  recs-end e =
      let n = nil_recs m.limit p remote (places_at m.limit m.budget loc (olds (entries l (take footing a₀) c))) (entries l (take footing a₀) c) e in
      (omega (arith, h.last, ap length n), finished a₀ footing whole a to _ h.writing n)

  pub settle_asks : length a₀ ≤ 18446744073709551615 → Sane m → Sane m × (end_at m.limit m.budget loc (only true (entries l (take footing a) c)) ≤ 18446744073709551615)
  settle_asks b s = rw h.writing.same (s, omega (arith, h.ends))

  module _ (i : EntryAt) (d : Cursor) (f : Found l (take footing a₀) c i d) where
    abbrev e : Entry
    e = entry_of l (take footing a₀) i

    abbrev es : List Entry
    es = entries l (take footing a₀) d

    longs : Long p (entry_of l (take footing a₀) i ∷ entries l (take footing a₀) d)
    longs = subst (λ (xs : List Entry). Long p xs) f.list h.long

    remotes_are : remotes_len m.limit (heads (entries l (take footing a₀) c)) ≡ remote_if i.old m.limit i.vlen i.kept.0 + remotes_len m.limit (heads es)
    unfolding entry_of
    remotes_are = ap (λ (xs : List Entry). remotes_len m.limit (heads xs)) f.list ∙ remotes_step m.limit e es ∙ ap (λ (n : ℕ). remote_if i.old m.limit n i.kept.0 + remotes_len m.limit (heads es)) f.vlen

    pub beyond_fits : remote + remote_if i.old m.limit i.vlen i.kept.0 ≤ length a₀
    beyond_fits = omega (arith, remotes_are, h.away)

    module _ (k : ℕ) (ek : k ≡ run_if i.old (old_run (entries l (take footing a) d))) where
      k_is : k ≡ run_if i.old (old_run es)
      k_is = rw h.writing.same at ek

      pub k_few : k ≤ max_entries
      k_few = omega (arith, k_is, run_if_few i.old (old_run es) (length es) (run-few es), ap length f.list, h.few)

      module _ (b : Bool) (eb : b ≡ named_by i.old k) (q : Loc) (st : Settled m.limit m.budget (only true (entries l (take footing a) c)) b loc q) where
        s : Settled m.limit m.budget (olds (e ∷ es)) (named_by i.old k) loc q
        s =
            let s₁ : Settled m.limit m.budget (olds (entries l (take footing a₀) c)) b loc q = rw h.writing.same at st in
            let s₂ : Settled m.limit m.budget (olds (e ∷ es)) b loc q = rw f.list at s₁ in
            rw eb at s₂

        pub q_slots : q.slot + q.left ≤ max_entries
        q_slots = st.slots h.slots

        pub q_left : i.old ≡ true → 1 ≤ q.left
        q_left = left-on m.limit m.budget e es loc q i.old (old_of l (take footing a₀) i) k s

        abbrev ref : HistRef
        ref = hist_of q.page q.slot k

        rest-is : head_recs m.limit p remote (places_at m.limit m.budget loc (olds (entries l (take footing a₀) c))) (entries l (take footing a₀) c)
            ≡ rec_if m.limit p remote ref e ++ head_recs m.limit p (remote + remote_if i.old m.limit i.vlen i.kept.0) (places_at m.limit m.budget (onward_of i.old q) (olds es)) es
        rest-is =
            ap (λ (xs : List Entry). head_recs m.limit p remote (places_at m.limit m.budget loc (olds xs)) xs) f.list
            ∙ recs_open m.limit m.budget e es loc q p remote i.old (old_of l (take footing a₀) i) i.vlen i.kept.0 f.vlen (kept_of l (take footing a₀) i) k k_is s

        abbrev rest_then : List ℕ
        rest_then = head_recs m.limit p (remote + remote_if i.old m.limit i.vlen i.kept.0) (places_at m.limit m.budget (onward_of i.old q) (olds es)) es

        ends_are : end_at m.limit m.budget loc (olds (entries l (take footing a₀) c)) ≡ end_at m.limit m.budget (onward_of i.old q) (olds es)
        ends_are = ap (λ (xs : List Entry). end_at m.limit m.budget loc (olds xs)) f.list ∙ ends_on m.limit m.budget e es loc q i.old (old_of l (take footing a₀) i) k s

        pub head_asks : (footing ≤ to) × (Placed l (take footing a) i × ((p ≤ i.key.plen + i.key.klen) × (to + length (rec_if m.limit p remote ref (entry_of l (take footing a) i)) ≤ length a)))
        head_asks =
            rw h.writing.same
            (h.writing.over, (f.placed, (let z = longs.0 in omega (arith, z, f.klen), front a₀ footing whole a to _ (rec_if m.limit p remote ref e) _ h.writing rest-is)))

        pub recs_turn : (n : ℕ) → n ≡ remote_if i.old m.limit i.vlen i.kept.0 → (loc₁ : Loc) → loc₁ ≡ onward_of i.old q
            → (a₁ : List ℕ) (to₁ : ℕ) → to₁ ≡ to + length (rec_if m.limit p remote ref (entry_of l (take footing a) i)) → a₁ ≡ put a to (rec_if m.limit p remote ref (entry_of l (take footing a) i))
            → Recording a₀ l footing whole p m end a₁ d to₁ (remote + n) loc₁
        recs_turn n en loc₁ el a₁ to₁ et ea =
            let t₁ : to₁ ≡ to + length (rec_if m.limit p remote ref e) = rw h.writing.same at et in
            let w = wrote a₀ footing whole a to _ (rec_if m.limit p remote ref e) _ a₁ to₁ h.writing rest-is (rw h.writing.same at ea) t₁ in
            rw (en, el)
            (record {
              writing = w;
              last = omega (arith, h.last, ap length rest-is, length-append (rec_if m.limit p remote ref e) rest_then, t₁);
              long = longs.1;
              few = omega (arith, ap length f.list, h.few);
              ends = omega (arith, h.ends, ends_are);
              away = omega (arith, remotes_are, h.away);
              slots = slots-on m.limit m.budget e es loc q i.old q_left q_slots;
            })

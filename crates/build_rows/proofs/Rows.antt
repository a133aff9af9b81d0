-- The entries of a judged page, for loops: one slot, one old version of a run, each with what is left; where an entry's bytes stand.
-- Assumes nothing.
use Prim.Native.Nat.{ℕ, zero, suc, ◌+◌, ◌-◌, ◌*◌, ◌≤◌, ◌<◌}
use mathlib.Core.Path.{◌≡◌, refl, sym, ap, ap₂, ◌∙◌}
use mathlib.Core.Bool.{Bool, true, false, ◌||◌}
use mathlib.Core.List.{List, [], ◌∷◌, ◌++◌}
use native.Mathlib.Omega.{arith}
use borrow.Author.Tests.{eq-eqb, ne_eqb}
use lib.ListN.{length, length-append}
use lib.Dec.{eqb}
use Rattle.spans.specs.Span.{part}
use Rattle.spans.proofs.Part.{length_part}
use Rattle.numbers.specs.Number.{le_at}
use Rattle.order.specs.Version.{ver_of}
use Rattle.frames.specs.declared.Addr.{Addr}
use Rattle.frames.specs.declared.Body.{Body}
use Rattle.frames.specs.Layout.{base_len, Inside}
use Rattle.frames.specs.Limits.{max_key, max_value}
use Rattle.frames.proofs.Frames.{open_inside, open_kind}
use Rattle.values.specs.Keys.{ver_in}
use Rattle.records.specs.declared.Rec.{Rec}
use Rattle.records.specs.Records.{rec_at}
use Rattle.records.proofs.Inside.{at-inside, ver-inside, skip_twelve}
use Rattle.pages.specs.Sound.{history_at, old_at, entered_of, entered, head_ok, old_version}
use Rattle.pages.specs.Meaning.{Page, prefix_of, key_of}
use Rattle.pages.proofs.Given.{Sound, head_given, link_given}
use Rattle.pages.proofs.Olds.{old-inside}
use Rattle.pages.proofs.Rows.{Good, slot_good}
use Rattle.build_sources.specs.Source.{Entry}
use Rattle.build_rows.specs.declared.Spot.{Spot}
use Rattle.law_rows.specs.Rows.{old_entry, old_entries, head_entry, head_entries, child_entry, slot_entries, leaf_entries, index_entries, body_entries, page_entries}
use Rattle.build_rows.specs.Judged.{Judged, Runs}
use Rattle.build_rows.specs.Hand.{Opens, Answers, SpotAt}
use Rattle.build_rows.proofs.Fields.{rec-here, rec-child, slot-found}
use Rattle.build_rows.proofs.Hands.{old_again}
use Rattle.std.proofs.Common.{Option, Some, None}

-- ---- a sound page is judged

module _ (w : List ℕ) (a : Addr) (p : Page) (g : Sound w a p) where
  pub sound_judged : (k : ℕ) → g.body.kind ≡ k → Judged w g.body k
  sound_judged k e = record { inside = (open_inside w a g.body g.opened).0; is = e; slots = g.slots; chains = g.chains }

  -- it is a leaf or an index page
  pub sound_kind : g.body.kind < 2
  sound_kind = go g.body.kind (open_kind w a g.body g.opened) g.kind
    where
      go : (k : ℕ) → k ≤ 2 → (k ≡ 2 → ⊥) → k < 2
      go k l n = omega arith

  pub sound_entries : page_entries w a ≡ body_entries w g.body
  unfolding page_entries
  sound_entries = rw g.opened

-- all entries of a leaf and of an index page
module _ (w : List ℕ) (b : Body) where
  pub leaf_all : b.kind ≡ 0 → body_entries w b ≡ leaf_entries w b (b.elems - 0) 0
  leaf_all e = let z : b.elems - 0 ≡ b.elems = omega arith in rw (ne_eqb b.kind 1 (λ y. omega arith), z)

  pub index_all : b.kind ≡ 1 → body_entries w b ≡ index_entries w b (b.elems - 0) 0
  index_all e = let z : b.elems - 0 ≡ b.elems = omega arith in rw (eq-eqb b.kind 1 e, z)

-- ---- slots

-- the record of a slot: it can be read, and its history is sound
pub judged_good : (w : List ℕ) (b : Body) (k i : ℕ) → Judged w b k → i < b.elems → Good w b i
judged_good w b k i g l = slot_good w b g.slots g.chains i l

module _ (f : Rec → List Entry) (w : List ℕ) (b : Body) (end i : ℕ) where
  pub slots_end : end ≤ i → slot_entries f w b (end - i) i ≡ []
  unfolding slot_entries
  slots_end l = let z : end - i ≡ 0 = omega arith in rw z

  pub slots_more : (r : Rec) → i < end → rec_at w b i ≡ Some r → slot_entries f w b (end - i) i ≡ f r ++ slot_entries f w b (end - (i + 1)) (i + 1)
  unfolding slot_entries
  slots_more r l e = let z : end - i ≡ suc (end - (i + 1)) = omega arith in rw (z, slot_entries, e)

module _ (w : List ℕ) (b : Body) (end i : ℕ) (r : Rec) (l : i < end) (e : rec_at w b i ≡ Some r) where
  -- a leaf's: the head, its old versions, and what is left
  pub leaf_more : leaf_entries w b (end - i) i ≡ head_entry w b r ∷ (old_entries w (key_of w b r) r.hist.count r.hist.page r.hist.slot ++ leaf_entries w b (end - (i + 1)) (i + 1))
  unfolding head_entries
  leaf_more = slots_more (head_entries w b) w b end i r l e

  -- an index page's: the child, and what is left
  pub index_more : index_entries w b (end - i) i ≡ child_entry w b r ∷ index_entries w b (end - (i + 1)) (i + 1)
  index_more = slots_more (λ y. child_entry w b y ∷ []) w b end i r l e

-- ---- runs of old versions

-- a head's old versions are a run of as many as it counts
pub head_runs : (w : List ℕ) (r : Rec) → head_ok w r ≡ true → Runs w r.hist.count r.hist.page r.hist.slot
head_runs w r e = (ver_in w r.ver_at, (head_given w r e).1)

entered-opens : (w : List ℕ) (a : Addr) (i : ℕ) → entered w a i ≡ true → Opens w a
unfolding entered
entered-opens w a i e = go (history_at w a) refl e
  where
    go : (o : Option Body) → history_at w a ≡ o → entered_of i o ≡ true → Opens w a
    go (Some b) q e' = (b, q)
    go None q e' = absurd (let z : ◌≡◌ {A = ℕ} 0 1 = cc in omega arith)

-- and where there are some, their page can be opened
pub head_opens : (w : List ℕ) (r : Rec) → head_ok w r ≡ true → 0 < r.hist.count → Opens w r.hist.page
head_opens w r e l =
    let n : eqb r.hist.count 0 ≡ false = ne_eqb r.hist.count 0 (λ z. omega arith) in
    entered-opens w r.hist.page r.hist.slot (ap (λ (t : Bool). t || entered w r.hist.page r.hist.slot) (sym n) ∙ (head_given w r e).0)

-- one old version of a run, and the run behind it
pub record Turn (w : List ℕ) (n : ℕ) (a : Addr) (i : ℕ) : Type 0 where
  pub page : Addr
  pub slot : ℕ
  pub rec : Rec
  pub read : old_at w a i ≡ Some (old_version page slot rec)
  pub again : old_at w page slot ≡ Some (old_version page slot rec)
  pub more : Runs w (n - 1) page (slot + 1)
  pub entries : (key : List ℕ) → old_entries w key n a i ≡ old_entry w key rec ∷ old_entries w key (n - 1) page (slot + 1)

pub run_end : (w key : List ℕ) (n : ℕ) (a : Addr) (i : ℕ) → n ≤ 0 → old_entries w key n a i ≡ []
unfolding old_entries
run_end w key n a i l = let z : n ≡ 0 = omega arith in rw z

old_more : (w key : List ℕ) (n : ℕ) (a : Addr) (i : ℕ) (p : Addr) (q : ℕ) (r : Rec) → old_at w a i ≡ Some (old_version p q r) → old_entries w key (suc n) a i ≡ old_entry w key r ∷ old_entries w key n p (q + 1)
unfolding old_entries
old_more w key n a i p q r e = rw e

pub run_more : (w : List ℕ) (n : ℕ) (a : Addr) (i : ℕ) → Runs w n a i → 0 < n → Turn w n a i
run_more w n a i g l =
    let z : n ≡ suc (n - 1) = omega arith in
    let k = link_given w (n - 1) a i g.0 (rw z at g.1) in
    record {
      page = k.page;
      slot = k.slot;
      rec = k.rec;
      read = k.read;
      again = old_again w a i k.page k.slot k.rec k.read;
      more = (ver_in w k.rec.ver_at, k.more);
      entries = λ key. ap (λ (m : ℕ). old_entries w key m a i) z ∙ old_more w key (n - 1) a i k.page k.slot k.rec k.read;
    }

-- a run of n old versions has n entries
pub run_length : (w key : List ℕ) (n : ℕ) (a : Addr) (i : ℕ) → Runs w n a i → length (old_entries w key n a i) ≡ n
run_length w key zero a i g = ap length (run_end w key zero a i (omega arith))
run_length w key (suc n) a i g =
    let t = run_more w (suc n) a i g (omega arith) in
    let z : suc n - 1 ≡ n = omega arith in
    ap length (t.entries key)
    ∙ ap (λ (m : ℕ). suc (length (old_entries w key m t.page (t.slot + 1)))) z
    ∙ ap (λ (m : ℕ). suc m) (run_length w key n t.page (t.slot + 1) (rw z at t.more))

module _ (w : List ℕ) (n : ℕ) (a : Addr) (i : ℕ) (t : Turn w n a i) where
  pub turn_answers : Answers w a i
  turn_answers = (t.page, t.slot, t.rec, t.read)

  -- the same from the spot where it stands: `old_here` reads it there
  pub record At (x : Spot) : Type 0 where
    pub read : old_at w x.hand.page x.slot ≡ Some (old_version x.hand.page x.slot t.rec)
    pub answers : Answers w x.hand.page x.slot
    pub more : Runs w (n - 1) x.hand.page (x.slot + 1)
    pub entries : (key : List ℕ) → old_entries w key n a i ≡ old_entry w key t.rec ∷ old_entries w key (n - 1) x.hand.page (x.slot + 1)

  pub turn_at : (x : Spot) → SpotAt w a i x → At x
  turn_at x s =
      let e = s.same t.page t.slot t.rec t.read in
      let u : old_at w x.hand.page x.slot ≡ Some (old_version x.hand.page x.slot t.rec) = rw (e.0, e.1) t.again in
      record {
        read = u;
        answers = (x.hand.page, x.slot, t.rec, u);
        more = rw (e.0, e.1) t.more;
        entries = λ key. rw (e.0, e.1) (t.entries key);
      }

-- ---- where an entry's bytes stand

-- a version and a value
pub record Places (w : List ℕ) (r : Rec) : Type 0 where
  pub ver : r.ver_at + 12 ≤ length w
  pub val : r.val_at + r.val_len ≤ length w
  pub small : r.val_len ≤ max_value
  pub long : length (part w r.val_at r.val_len) ≡ r.val_len

-- a whole key: the page's prefix and the rest
pub record KeyPlaces (w : List ℕ) (b : Body) (r : Rec) : Type 0 where
  pub prefix : b.at + base_len + 4 * b.elems + b.prefix_len ≤ length w
  pub rest : r.rest_at + r.rest_len ≤ length w
  pub whole : b.prefix_len + r.rest_len ≤ max_key
  pub long : length (key_of w b r) ≡ b.prefix_len + r.rest_len

rec-places : (w : List ℕ) (b : Body) (i : ℕ) (r : Rec) → Inside w b → (b.kind ≡ 1 → ⊥) → rec_at w b i ≡ Some r → Places w r
rec-places w b i r u n e =
    let v = rec-here w b i r u n e in
    record { ver = ver-inside w b i r u n e; val = v.whole; small = v.small; long = length_part w r.val_at r.val_len v.whole }

pub old-places : (w : List ℕ) (a : Addr) (i : ℕ) (p : Addr) (q : ℕ) (r : Rec) → old_at w a i ≡ Some (old_version p q r) → Places w r
old-places w a i p q r e =
    let g = old-inside w a i p q r e in
    rec-places w g.page q r g.history.inside (λ z. omega (arith, g.history.kind)) g.read

pub head_places : (w : List ℕ) (b : Body) (i : ℕ) (r : Rec) → Judged w b 0 → rec_at w b i ≡ Some r → Places w r
head_places w b i r g e = rec-places w b i r g.inside (λ z. omega (arith, g.is)) e

pub key-places : (w : List ℕ) (b : Body) (i : ℕ) (r : Rec) → Inside w b → rec_at w b i ≡ Some r → KeyPlaces w b r
unfolding prefix_of
key-places w b i r u e =
    let k = (at-inside w b i r u e).0 in
    let x : b.at + base_len + 4 * b.elems + b.prefix_len ≤ length w = omega (arith, u.slots, u.records, u.payload, u.arena, u.prefix) in
    let y : r.rest_at + r.rest_len ≤ length w = omega (arith, k.rest, u.payload, u.arena) in
    record {
      prefix = x;
      rest = y;
      whole = (slot-found w b i r u e).whole;
      long =
          length-append (part w (b.at + base_len + 4 * b.elems) b.prefix_len) (part w r.rest_at r.rest_len)
          ∙ ap₂ (λ (m n : ℕ). m + n) (length_part w (b.at + base_len + 4 * b.elems) b.prefix_len x) (length_part w r.rest_at r.rest_len y);
    }

-- a head's rest stands behind its version
pub head_rest : (w : List ℕ) (b : Body) (i : ℕ) (r : Rec) → Judged w b 0 → rec_at w b i ≡ Some r → r.ver_at + 12 ≡ r.rest_at
head_rest w b i r g e = omega (arith, (at-inside w b i r g.inside e).0.ver, skip_twelve b.kind (λ z. omega (arith, g.is)))

-- a child's page id stands behind its key
pub child-places : (w : List ℕ) (b : Body) (i : ℕ) (r : Rec) → Judged w b 1 → rec_at w b i ≡ Some r → (r.rest_at + r.rest_len ≡ r.val_at) × (r.val_at + 8 ≤ length w)
child-places w b i r g e = rec-child w b i r g.is g.inside e

-- ---- what an entry says

module _ (w : List ℕ) (b : Body) (r : Rec) where
  pub head_says : head_entry w b r ≡ record { old = false; key = key_of w b r; ver = ver_in w r.ver_at; val = part w r.val_at r.val_len; kept = r.remote.0; page = 0 }
  unfolding head_entry
  head_says = refl

  pub child_says : child_entry w b r ≡ record { old = false; key = key_of w b r; ver = ver_of 0 0; val = []; kept = 0; page = le_at 8 w r.val_at }
  unfolding child_entry
  child_says = refl

pub old_says : (w key : List ℕ) (r : Rec) → old_entry w key r ≡ record { old = true; key = key; ver = ver_in w r.ver_at; val = part w r.val_at r.val_len; kept = r.remote.0; page = 0 }
unfolding old_entry
old_says w key r = refl

-- The head records of a leaf page read back slot by slot, each with its whole key, version, value and older versions.
-- Assumes nothing.
use Prim.Native.Nat.{ℕ, suc, ◌+◌, ◌*◌, ◌-◌, ◌^◌, ◌≤◌, ◌<◌}
use mathlib.Core.Path.{◌≡◌, refl, sym, ap, ◌∙◌, subst}
use mathlib.Core.Bool.{Bool, true, false, cond}
use mathlib.Core.List.{List, [], ◌∷◌, ◌++◌}
use native.Mathlib.Omega.{arith}
use borrow.Author.Tests.{le-leb, eq-eqb}
use lib.ListN.{length, take, drop, length-append}
use Rattle.spans.specs.Span.{part, Lies}
use Rattle.spans.proofs.Lying.{lies_front, lies_back, lies_part}
use Rattle.numbers.specs.Number.{le}
use Rattle.numbers.proofs.Numbers.{length-le}
use Rattle.lengths.specs.Leb128.{uleb}
use Rattle.frames.specs.declared.Body.{Body}
use Rattle.frames.specs.Layout.{base_len}
use Rattle.frames.specs.Limits.{max_key}
use Rattle.values.specs.declared.HistRef.{HistRef}
use Rattle.values.specs.Keys.{ver_bytes, leaf_front, leaf_key, key_at, ver_in, key_parts}
use Rattle.values.specs.Vals.{size_of}
use Rattle.values.proofs.Laws.{length-leaf_key}
use Rattle.values.proofs.KeysBack.{SmallVer, ver_back, leaf_back, leaf_rest}
use Rattle.values.proofs.ValsBack.{SmallHist, canon}
use Rattle.records.specs.declared.Rec.{Rec}
use Rattle.records.specs.Records.{key_in, rec_in, rec_at}
use Rattle.pages.specs.Sound.{head_ok}
use Rattle.pages.specs.Meaning.{Head, prefix_of, head_of}
use Rattle.build_sources.specs.Source.{Entry, only, olds, heads}
use Rattle.build_sources.specs.Marks.{Each}
use Rattle.build_sources.specs.Judged.{prefixed}
use Rattle.build_image.specs.declared.Call.{Call}
use Rattle.build_image.specs.Sizes.{remote_len, remotes_len, key_len, old_run}
use Rattle.build_image.specs.Image.{val_bytes, remote_frame_of, remote_frames, PageSlot, ref_of, head_rec, head_recs, any, head_slots}
use Rattle.build_image.proofs.Lengths.{length-remote_of}
use Rattle.build_image.proofs.Leaf.{length_head}
use Rattle.law_history.specs.Fit.{Fits, CallFits, Address}
use Rattle.law_history.specs.Rows.{Rows}
use Rattle.law_history.specs.Olders.{olders_of}
use Rattle.law_history.proofs.Values.{lies_take, Resolves, val_back, RecBack, rec_back, rec-at}
use Rattle.law_history.proofs.Remotes.{remote-even, resolves}
use Rattle.law_history.proofs.Chain.{Told}
use Rattle.law_history.proofs.Prefix.{Split, split, prefixed-first}
use Rattle.law_leaf.specs.Grouped.{run_of, head_is, grouped}
use Rattle.law_leaf.proofs.Groups.{length_run, run_short, length_olders, run-front, Ages, count_of}
use Rattle.law_leaf.proofs.Refs.{told-drop, ref-small, ref-count, RefReads, ref_reads}
use Rattle.std.proofs.Common.{Some}

-- a record says a head
pub record SaysHead (s : List ℕ) (b : Body) (r : Rec) (h : Head) : Type 0 where
  pub head : head_of s b r ≡ h
  pub ok : head_ok s r ≡ true
  pub count : r.hist.count ≡ count_of h

-- the record at a place of the page
pub record HeadRead (s : List ℕ) (b : Body) (at next : ℕ) (h : Head) : Type 0 where
  pub rec : Rec
  pub read : rec_in s b at ≡ Some rec
  pub from : rec.from ≡ at
  pub behind : rec.next ≡ next
  pub says : SaysHead s b rec h

-- ---- one record

module _ (s : List ℕ) (b : Body) (p : ℕ) (pre : List ℕ) (kind : b.kind ≡ 0) (cut : b.prefix_len ≡ p) (is-pre : prefix_of s b ≡ pre) (ends : b.end ≤ length s)
    (limit remote : ℕ) (e : Entry) (h : HistRef) (run : List Entry) (small : SmallHist h) (fit : Fits s e) (sp : Split p pre e.key) (res : Resolves s limit remote e) (ref : RefReads s (canon h) e.ver run)
    (at : ℕ) (lies : Lies s at (head_rec limit p remote h e)) (room : at + length (head_rec limit p remote h e) ≤ b.end) where
  abbrev rest : List ℕ
  rest = drop p e.key

  abbrev n : ℕ
  n = length (uleb (12 + length rest))

  tiny : length rest ≤ max_key
  tiny = omega (arith, sp.long, fit.short.key)

  sver : SmallVer e.ver
  sver = record { txid = fit.wide.txid; cmd = fit.wide.cmd }

  long : length (head_rec limit p remote h e) ≡ length (leaf_key e.ver rest) + length (val_bytes limit remote h e)
  unfolding head_rec
  long = length-append (leaf_key e.ver rest) (val_bytes limit remote h e)

  key_lies : Lies s at (leaf_key e.ver rest)
  unfolding head_rec
  key_lies = lies_front s at (leaf_key e.ver rest) (val_bytes limit remote h e) lies

  ver_lies : Lies s (at + n) (ver_bytes e.ver)
  unfolding leaf_key leaf_front
  ver_lies = lies_back s at (uleb (12 + length rest)) (ver_bytes e.ver) (lies_front s at (leaf_front e.ver (length rest)) rest key_lies)

  key : key_in s b at ≡ Some (key_parts (at + n) (at + n + 12) (length rest))
  unfolding key_in
  key =
      let k : key_at (take b.end s) at 0 ≡ Some (key_parts (at + n) (at + n + 12) (length rest)) =
      leaf_back (take b.end s) at e.ver rest tiny sver (lies_take s at b.end (leaf_key e.ver rest) (omega (arith, long)) key_lies) in
      rw (kind, k, cut, le-leb (p + length rest) max_key (omega (arith, sp.long, fit.short.key))) refl

  val_lies : Lies s (at + n + 12 + length rest) (val_bytes limit remote h e)
  unfolding head_rec
  val_lies =
      let z : at + length (leaf_key e.ver rest) ≡ at + n + 12 + length rest = omega (arith, length-leaf_key e.ver rest) in
      rw z at (lies_back s at (leaf_key e.ver rest) (val_bytes limit remote h e) lies)

  head_back : RecBack s b at (at + n) (at + n + 12) (length rest) h e (at + n + 12 + length rest + length (val_bytes limit remote h e))
  head_back =
      rec_back s b at (at + n) (at + n + 12) (length rest) h e (at + n + 12 + length rest + length (val_bytes limit remote h e)) (λ q. omega arith) key
      (val_back s b (at + n + 12 + length rest) limit remote h e (λ q. eq-eqb b.kind 0 kind) small fit.short.val res val_lies (omega (arith, long, length-leaf_key e.ver rest)))

  head_next : head_back.rec.next ≡ at + length (head_rec limit p remote h e)
  head_next = head_back.behind ∙ omega (arith, long, length-leaf_key e.ver rest)

  ver-is : ver_in s head_back.rec.ver_at ≡ e.ver
  ver-is = rw head_back.ver-at (ver_back s (at + n) e.ver sver ver_lies)

  rest-is : part s head_back.rec.rest_at head_back.rec.rest_len ≡ rest
  rest-is = rw (head_back.rest_at, head_back.rest_len) (lies_part s (at + n + 12) (length rest) rest refl (leaf_rest s at e.ver rest tiny sver key_lies))

  head_says : SaysHead s b head_back.rec (record { key = e.key; ver = e.ver; value = e.val; olds = olders_of run })
  unfolding head_of
  head_says =
      record {
        head = rw (is-pre, rest-is, ver-is, head_back.val, head_back.hist, ref.olds, sp.joins) refl;
        ok = ref.ok head_back.rec head_back.hist ver-is;
        count = ap (λ (x : HistRef). x.count) head_back.hist ∙ ref.count ∙ sym (length_olders run);
      }

  pub head_read : HeadRead s b at (at + length (head_rec limit p remote h e)) (record { key = e.key; ver = e.ver; value = e.val; olds = olders_of run })
  head_read = record { rec = head_back.rec; read = head_back.read; from = head_back.from; behind = head_next; says = head_says }

-- ---- the records in order

key-some : (p n : ℕ) → 0 < key_len p n
unfolding key_len
key-some p n = omega arith

olds-old : (e : Entry) (es : List Entry) → e.old ≡ true → olds (e ∷ es) ≡ e ∷ olds es
unfolding only
olds-old e es q = ap (λ (t : Bool). cond t (e ∷ only true es) (only true es)) q

module _ (s : List ℕ) (m : Call) (b : Body) (p : ℕ) (pre : List ℕ) (w : CallFits m) (kind : b.kind ≡ 0) (cut : b.prefix_len ≡ p) (is-pre : prefix_of s b ≡ pre) (wide : length pre ≡ p) (ends : b.end ≤ length s) (short : b.end < b.at + 256 ^ 4) where
  -- what is still to come from slot i on
  pub record Coming (i off remote : ℕ) (ps : List PageSlot) (es : List Entry) : Type 0 where
    pub count : i + length (heads es) ≡ b.elems
    pub low : b.first ≤ b.at + off
    pub high : b.at + off + length (head_recs m.limit p remote ps es) ≤ b.end
    pub each : Each (Fits s) es
    pub begins : prefixed pre es ≡ true
    pub told : Told s ps (olds es)
    pub ages : Ages es
    pub few : length es < 256 ^ 4
    pub address : Address s remote
    pub room : remote + remotes_len m.limit (heads es) ≤ length s
    pub slots : Lies s (b.at + base_len + 4 * i) (head_slots m.limit p off es)
    pub recs : Lies s (b.at + off) (head_recs m.limit p remote ps es)
    pub frames : Lies s remote (remote_frames m (heads es))

  -- an old version stands in no slot
  skipped : (i off remote : ℕ) (ps : List PageSlot) (e : Entry) (es : List Entry) → e.old ≡ true → Coming i off remote ps (e ∷ es) → Coming i off remote (drop 1 ps) es
  unfolding only head_slots head_recs Each Ages
  skipped i off remote ps e es q c =
      record {
        count = rw q at c.count;
        low = c.low;
        high = rw q at c.high;
        each = c.each.1;
        begins = (prefixed-first pre e es c.begins).1;
        told = told-drop s ps e (olds es) (subst (λ (x : List Entry). Told s ps x) (olds-old e es q) c.told);
        ages = c.ages.1;
        few = omega (arith, c.few);
        address = c.address;
        room = rw q at c.room;
        slots = rw q at c.slots;
        recs = rw q at c.recs;
        frames = rw q at c.frames;
      }

  module _ (i off remote : ℕ) (ps : List PageSlot) (e : Entry) (es : List Entry) (q : e.old ≡ false) (c : Coming i off remote ps (e ∷ es)) where
    abbrev limit : ℕ
    limit = m.limit

    abbrev k : ℕ
    k = old_run es

    abbrev ref : HistRef
    ref = ref_of ps k

    abbrev here : List ℕ
    here = head_rec limit p remote ref e

    abbrev remote' : ℕ
    remote' = remote + remote_len limit (length e.val) e.kept

    abbrev off' : ℕ
    off' = off + (key_len p (length e.key) + size_of (any k) limit (length e.val))

    abbrev more : List ℕ
    more = head_recs limit p remote' ps es

    recs_are : Lies s (b.at + off) (here ++ more)
    unfolding head_recs
    recs_are = rw q at c.recs

    high_is : b.at + off + length (here ++ more) ≤ b.end
    unfolding head_recs
    high_is = rw q at c.high

    slots_are : Lies s (b.at + base_len + 4 * i) (le 4 off ++ head_slots limit p off' es)
    unfolding head_slots
    slots_are = rw q at c.slots

    frames_are : Lies s remote (remote_frame_of m e ++ remote_frames m (heads es))
    unfolding only remote_frames
    frames_are = rw q at c.frames

    room-is : remote + (remote_len limit (length e.val) e.kept + remotes_len limit (heads es)) ≤ length s
    unfolding only remotes_len
    room-is = rw q at c.room

    count-is : i + suc (length (heads es)) ≡ b.elems
    unfolding only
    count-is = rw q at c.count

    told_is : Told s ps (olds es)
    unfolding only
    told_is = rw q at c.told

    here-long : length here ≡ key_len p (length e.key) + size_of (any k) limit (length e.val)
    here-long = length_head limit p remote ref e ∙ ap (λ (j : ℕ). key_len p (length e.key) + size_of (any j) limit (length e.val)) (ref-count ps k)

    next-at : b.at + off + length here ≡ b.at + off'
    next-at = omega (arith, here-long)

    followed : Coming (i + 1) off' remote' ps es
    unfolding Each Ages
    followed =
        let y : b.at + base_len + 4 * i + length (le 4 off) ≡ b.at + base_len + 4 * (i + 1) = omega (arith, length-le 4 off) in
        record {
          count = omega (arith, count-is);
          low = omega (arith, c.low);
          high = omega (arith, next-at, high_is, length-append here more);
          each = c.each.1;
          begins = (prefixed-first pre e es c.begins).1;
          told = told_is;
          ages = c.ages.1;
          few = omega (arith, c.few);
          address = record { above = omega (arith, c.address.above); even = omega (arith, c.address.even, remote-even limit (length e.val) e.kept); word = c.address.word };
          room = omega (arith, room-is);
          slots = rw y at (lies_back s (b.at + base_len + 4 * i) (le 4 off) (head_slots limit p off' es) slots_are);
          recs = rw next-at at (lies_back s (b.at + off) here more recs_are);
          frames = rw (length-remote_of m e) at (lies_back s remote (remote_frame_of m e) (remote_frames m (heads es)) frames_are);
        }

    -- the head itself
    fit : Fits s e
    unfolding Each
    fit = c.each.0

    res : Resolves s limit remote e
    res = resolves s m remote e w fit c.address (omega (arith, room-is)) (lies_front s remote (remote_frame_of m e) (remote_frames m (heads es)) frames_are)

    sp : Split p pre e.key
    sp = split p pre e.key wide (prefixed-first pre e es c.begins).0

    run-few : k < 256 ^ 4
    run-few = omega (arith, c.few, length_run es, run_short es)

    reads : RefReads s (canon ref) e.ver (run_of es)
    unfolding Ages
    reads =
        let f = run-front es in
        rw (← length_run es) (ref_reads s ps e.ver (run_of es) f.0 (rw f.1 at told_is) c.ages.0)

    here_lies : Lies s (b.at + off) here
    here_lies = lies_front s (b.at + off) here more recs_are

    here-room : b.at + off + length here ≤ b.end
    here-room = omega (arith, high_is, length-append here more)

    back : HeadRead s b (b.at + off) (b.at + off + length here) (head_is e es)
    back = head_read s b p pre kind cut is-pre ends limit remote e ref (run_of es) (ref-small s ps (olds es) k run-few told_is) fit sp res reads (b.at + off) here_lies here-room

    read : rec_at s b i ≡ rec_in s b (b.at + off)
    read = rec-at s b i off (omega (arith, count-is)) c.low (omega (arith, here-room, here-long, key-some p (length e.key))) (omega (arith, here-room, short)) (lies_front s (b.at + base_len + 4 * i) (le 4 off) (head_slots limit p off' es) slots_are)

    added : Rows (SaysHead s b) s b (i + 1) (b.at + off') (grouped es) → Rows (SaysHead s b) s b i (b.at + off) (head_is e es ∷ grouped es)
    unfolding Rows
    added h = (back.rec, read ∙ back.read, back.from, back.says, subst (λ (x : ℕ). Rows (SaysHead s b) s b (i + 1) x (grouped es)) (sym (back.behind ∙ next-at)) h)

  rows_by_lem : (t : Bool) (i off remote : ℕ) (ps : List PageSlot) (e : Entry) (es : List Entry) → e.old ≡ t → Coming i off remote ps (e ∷ es)
      → ((i off remote : ℕ) (ps : List PageSlot) → Coming i off remote ps es → Rows (SaysHead s b) s b i (b.at + off) (grouped es))
      → Rows (SaysHead s b) s b i (b.at + off) (cond t (grouped es) (head_is e es ∷ grouped es))
  rows_by_lem true i off remote ps e es q c ih = ih i off remote (drop 1 ps) (skipped i off remote ps e es q c)
  rows_by_lem false i off remote ps e es q c ih =
      added i off remote ps e es q c (ih (i + 1) (off' i off remote ps e es q c) (remote' i off remote ps e es q c) ps (followed i off remote ps e es q c))

  -- the records are the heads with their older versions
  pub rows_leaf : (es : List Entry) (i off remote : ℕ) (ps : List PageSlot) → Coming i off remote ps es → Rows (SaysHead s b) s b i (b.at + off) (grouped es)
  unfolding Rows grouped
  rows_leaf [] i off remote ps c = tt
  rows_leaf (e ∷ es) i off remote ps c = rows_by_lem e.old i off remote ps e es refl c (rows_leaf es)

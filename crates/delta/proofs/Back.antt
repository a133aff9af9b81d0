-- What was written reads back: a delta's frame wherever it lies, its key and value, and the value behind its remote frame.
-- Assumes nothing.
use mathlib.Core.Path.{◌≡◌, refl, ap, subst}
use mathlib.Core.List.{List, ◌++◌}
use mathlib.Core.Bool.{false}
use Prim.Native.Nat.{ℕ, ◌+◌, ◌%◌, ◌^◌, ◌≤◌, ◌<◌}
use native.Mathlib.Omega.{arith}
use borrow.Author.Tests.{le-leb, eq-eqb}
use lib.Dec.{leb}
use lib.ListN.{length, take}
use lib.Seq.{take-take}
use Rattle.spans.specs.Span.{part, Lies}
use Rattle.spans.proofs.Tests.{ask}
use Rattle.spans.proofs.Lying.{lies_front, lies_back, lies_kept, lies_part}
use Rattle.numbers.specs.Number.{le, le_at}
use Rattle.numbers.proofs.Numbers.{length-le, lies_le}
use Rattle.lengths.specs.Leb128.{uleb}
use Rattle.order.specs.declared.Ver.{Ver}
use Rattle.order.specs.Version.{ver_of}
use Rattle.frames.specs.declared.BoxHeader.{BoxHeader}
use Rattle.frames.specs.declared.Delta.{Delta}
use Rattle.frames.specs.declared.PageId.{PageId}
use Rattle.frames.specs.Layout.{addr, box_len, frame_len, box_fields, box_ok, box_at, remote_at, delta_at, box_delta, box_remote, node_leaf, node_index}
use Rattle.frames.specs.Stored.{box_bytes}
use Rattle.frames.specs.Limits.{max_key, max_value}
use Rattle.frames.proofs.Stores.{length_box, box_reads}
use Rattle.values.specs.Keys.{leaf_key, index_key, ver_in, key_parts}
use Rattle.values.specs.Vals.{no_hist, front_size, inline_bytes, remote_bytes}
use Rattle.values.proofs.Laws.{length-leaf_key, length-index_key, length_inline, length-remote}
use Rattle.values.proofs.KeysBack.{SmallVer, leaf_rest, leaf_version, leaf_back, index_rest, index_back}
use Rattle.values.proofs.ValsBack.{SmallHist, inline_bytes_lem, inline_back, remote_back}
use Rattle.pages.specs.Boundaries.{place}
use Rattle.build_image.specs.declared.Call.{Call}
use Rattle.build_image.specs.Sizes.{pad}
use Rattle.build_image.specs.Image.{box_of, remote_frame}
use Rattle.delta.specs.Deltas.{delta_head, delta_frame}
use Rattle.delta.specs.Read.{delta_is, key_in, leaf_key_at, index_key_at, val_in, value_at, child_at, keyed}
use Rattle.delta.proofs.Lengths.{length_head}
use Rattle.std.proofs.Common.{Some, Ok}

-- what the headers carry fits its fields
pub record Small (m : Call) : Type 0 where
  pub group : m.group < 256
  pub txid : m.txid < 256 ^ 8
  pub lsn : m.lsn < 256 ^ 8

-- what lies below a mark lies in the list cut there
lies_cut : (s : List ℕ) (i n : ℕ) (x : List ℕ) → i + length x ≤ n → Lies s i x → Lies (take n s) i x
lies_cut s i n x h l = lies_kept s (take n s) i n x h (take-take n n s (omega arith)) l

-- ---- the frame: d lies where the header says

module _ (s : List ℕ) (at : ℕ) (m : Call) (node : ℕ) (key val : List ℕ) (w : Small m) (n1 : node_leaf ≤ node) (n2 : node ≤ node_index) (h8 : 8 ≤ at) (hm : at % 8 ≡ 0)
    (few : length key + length val ≤ 1000000) (room : at + frame_len (8 + length key + length val) ≤ length s) (lies : Lies s at (delta_frame m node key val)) where
  abbrev k : ℕ
  k = length key

  abbrev v : ℕ
  v = length val

  abbrev box : BoxHeader
  box = box_of m (8 + k + v) box_delta node 0 0 m.txid

  head_lies : Lies s at (delta_head m node k v)
  unfolding delta_frame
  head_lies = lies_front s at (delta_head m node k v) (key ++ (val ++ pad (8 + k + v))) lies

  rest_lies : Lies s (at + box_len + 8) (key ++ (val ++ pad (8 + k + v)))
  unfolding delta_frame
  rest_lies =
      let e : at + length (delta_head m node k v) ≡ at + box_len + 8 = omega (arith, length_head m node k v) in
      subst (λ (j : ℕ). Lies s j (key ++ (val ++ pad (8 + k + v)))) e (lies_back s at (delta_head m node k v) (key ++ (val ++ pad (8 + k + v))) lies)

  pub key_lies : Lies s (at + box_len + 8) key
  key_lies = lies_front s (at + box_len + 8) key (val ++ pad (8 + k + v)) rest_lies

  pub val_lies : Lies s (at + box_len + 8 + k) val
  val_lies = lies_front s (at + box_len + 8 + k) val (pad (8 + k + v)) (lies_back s (at + box_len + 8) key (val ++ pad (8 + k + v)) rest_lies)

  lens_lie : Lies s (at + box_len) (le 4 k ++ le 4 v)
  unfolding delta_head
  lens_lie = subst (λ (j : ℕ). Lies s (at + j) (le 4 k ++ le 4 v)) (length_box box) (lies_back s at (box_bytes box) (le 4 k ++ le 4 v) head_lies)

  box_is : box_fields s at ≡ box
  unfolding delta_head
  box_is =
      box_reads s at box
      (record { payload = omega arith; kind = omega arith; node = omega arith; flag = omega arith; group = w.group; link = omega arith; txid = w.txid; lsn = w.lsn })
      (lies_front s at (box_bytes box) (le 4 k ++ le 4 v) head_lies)

  box_at_lem : box_at s (addr at) ≡ Some box
  unfolding box_at box_ok
  box_at_lem =
      rw (le-leb (at + box_len) (length s) (omega arith), box_is, le-leb 8 at h8, eq-eqb (at % 8) 0 hm, le-leb node_leaf node n1, le-leb node node_index n2, le-leb (at + frame_len (8 + k + v)) (length s) room) refl

  klen : le_at 4 s (at + box_len) ≡ k
  klen = lies_le s (at + box_len) 4 k (omega arith) (lies_front s (at + box_len) (le 4 k) (le 4 v) lens_lie)

  vlen : le_at 4 s (at + box_len + 4) ≡ v
  vlen = lies_le s (at + box_len + 4) 4 v (omega arith) (subst (λ (j : ℕ). Lies s (at + box_len + j) (le 4 v)) (length-le 4 k) (lies_back s (at + box_len) (le 4 k) (le 4 v) lens_lie))

  abbrev cut : Delta
  cut = record { key_at = at + box_len + 8; val_at = at + box_len + 8 + k; end = at + box_len + 8 + k + v; node_type = node; txid = m.txid }

  pub delta_back : delta_is s (addr at) node ≡ Some cut
  unfolding delta_is delta_at
  delta_back = rw (box_at_lem, klen, vlen, le-leb 8 (8 + k + v) (omega arith), eq-eqb (8 + k + v) (8 + k + v) refl, eq-eqb node node refl) refl

-- ---- a remote frame resolves

module _ (s : List ℕ) (at : ℕ) (m : Call) (v : List ℕ) (w : Small m) (h8 : 8 ≤ at) (hm : at % 8 ≡ 0) (few : length v ≤ max_value)
    (room : at + frame_len (8 + length v) ≤ length s) (lies : Lies s at (remote_frame m v)) where
  abbrev remote_box : BoxHeader
  remote_box = box_of m (8 + length v) box_remote node_leaf 0 0 0

  remote-rest : Lies s (at + box_len) (le 8 (length v) ++ (v ++ pad (8 + length v)))
  unfolding remote_frame
  remote-rest =
      subst (λ (j : ℕ). Lies s (at + j) (le 8 (length v) ++ (v ++ pad (8 + length v)))) (length_box remote_box)
      (lies_back s at (box_bytes remote_box) (le 8 (length v) ++ (v ++ pad (8 + length v))) lies)

  pub remote_lies : Lies s (at + box_len + 8) v
  remote_lies =
      lies_front s (at + box_len + 8) v (pad (8 + length v))
      (subst (λ (j : ℕ). Lies s (at + box_len + j) (v ++ pad (8 + length v))) (length-le 8 (length v)) (lies_back s (at + box_len) (le 8 (length v)) (v ++ pad (8 + length v)) remote-rest))

  remote-is : box_fields s at ≡ remote_box
  unfolding remote_frame
  remote-is =
      box_reads s at remote_box
      (record { payload = omega arith; kind = omega arith; node = omega arith; flag = omega arith; group = w.group; link = omega arith; txid = omega arith; lsn = w.lsn })
      (lies_front s at (box_bytes remote_box) (le 8 (length v) ++ (v ++ pad (8 + length v))) lies)

  remote-at : box_at s (addr at) ≡ Some remote_box
  unfolding box_at box_ok
  remote-at = rw (le-leb (at + box_len) (length s) (omega arith), remote-is, le-leb 8 at h8, eq-eqb (at % 8) 0 hm, le-leb (at + frame_len (8 + length v)) (length s) room) refl

  remote-size : le_at 8 s (at + box_len) ≡ length v
  remote-size = lies_le s (at + box_len) 8 (length v) (omega arith) (lies_front s (at + box_len) (le 8 (length v)) (v ++ pad (8 + length v)) remote-rest)

  pub remote_resolves : remote_at s (addr at) (length v) ≡ Some (at + box_len + 8)
  unfolding remote_at
  remote_resolves = rw (remote-at, remote-size, eq-eqb (8 + length v) (8 + length v) refl, eq-eqb (length v) (length v) refl) refl

-- ---- what is read: a place, and the bytes there

pub record ReadsKey (s : List ℕ) (at : ℕ) (ver : Ver) (key : List ℕ) : Type 0 where
  pub place_of : ℕ
  pub read : leaf_key_at s (addr at) ≡ Ok (keyed ver (place place_of (length key)))
  pub bytes : part s place_of (length key) ≡ key

pub record ReadsIndexKey (s : List ℕ) (at : ℕ) (key : List ℕ) : Type 0 where
  pub place_of : ℕ
  pub read : index_key_at s (addr at) ≡ Ok (place place_of (length key))
  pub bytes : part s place_of (length key) ≡ key

pub record ReadsValue (s : List ℕ) (at : ℕ) (v : List ℕ) : Type 0 where
  pub place_of : ℕ
  pub read : value_at s (addr at) ≡ Ok (place place_of (length v))
  pub bytes : part s place_of (length v) ≡ v

-- a leaf delta's key
module _ (s : List ℕ) (at : ℕ) (m : Call) (ver : Ver) (raw val : List ℕ) (w : Small m) (wv : SmallVer ver) (h8 : 8 ≤ at) (hm : at % 8 ≡ 0) (small : length raw ≤ max_key)
    (few : length (leaf_key ver raw) + length val ≤ 1000000) (room : at + frame_len (8 + length (leaf_key ver raw) + length val) ≤ length s) (lies : Lies s at (delta_frame m 1 (leaf_key ver raw) val)) where
  abbrev from : ℕ
  from = at + box_len + 8

  abbrev to : ℕ
  to = at + box_len + 8 + length (leaf_key ver raw)

  abbrev lead : ℕ
  lead = length (uleb (12 + length raw))

  here : Lies s from (leaf_key ver raw)
  here = key_lies s at m 1 (leaf_key ver raw) val w (omega arith) (omega arith) h8 hm few room lies

  key_in_lem : key_in s (cut s at m 1 (leaf_key ver raw) val w (omega arith) (omega arith) h8 hm few room lies) 0 ≡ Some (key_parts (from + lead) (from + lead + 12) (length raw))
  unfolding key_in
  key_in_lem =
      rw (leaf_back (take to s) from ver raw small wv (lies_cut s from to (leaf_key ver raw) (omega arith) here), le-leb (length raw) max_key small, eq-eqb (from + lead + 12 + length raw) to (omega (arith, length-leaf_key ver raw)))
      refl

  pub key_back : ReadsKey s at ver raw
  unfolding leaf_key_at
  key_back =
      record {
        place_of = from + lead + 12;
        read =
            rw (delta_back s at m 1 (leaf_key ver raw) val w (omega arith) (omega arith) h8 hm few room lies, key_in_lem)
            (ap (λ (x : Ver). Ok (keyed x (place (from + lead + 12) (length raw)))) (leaf_version s from ver raw small wv here));
        bytes = lies_part s (from + lead + 12) (length raw) raw refl (leaf_rest s from ver raw small wv here);
      }

-- an index delta's key and page id
module _ (s : List ℕ) (at : ℕ) (m : Call) (raw : List ℕ) (page : PageId) (w : Small m) (wp : page.0 < 256 ^ 8) (h8 : 8 ≤ at) (hm : at % 8 ≡ 0) (small : length raw ≤ max_key)
    (few : length (index_key raw) + length (le 8 page.0) ≤ 1000000) (room : at + frame_len (8 + length (index_key raw) + length (le 8 page.0)) ≤ length s) (lies : Lies s at (delta_frame m 2 (index_key raw) (le 8 page.0))) where
  abbrev ifrom : ℕ
  ifrom = at + box_len + 8

  abbrev ito : ℕ
  ito = at + box_len + 8 + length (index_key raw)

  abbrev ilead : ℕ
  ilead = length (uleb (length raw))

  ihere : Lies s ifrom (index_key raw)
  ihere = key_lies s at m 2 (index_key raw) (le 8 page.0) w (omega arith) (omega arith) h8 hm few room lies

  index_key_in : key_in s (cut s at m 2 (index_key raw) (le 8 page.0) w (omega arith) (omega arith) h8 hm few room lies) 1 ≡ Some (key_parts (ifrom + ilead) (ifrom + ilead + 0) (length raw))
  unfolding key_in
  index_key_in =
      rw (index_back (take ito s) ifrom raw small (lies_cut s ifrom ito (index_key raw) (omega arith) ihere), le-leb (length raw) max_key small, eq-eqb (ifrom + ilead + 0 + length raw) ito (omega (arith, length-index_key raw)))
      refl

  pub index_key_back : ReadsIndexKey s at raw
  unfolding index_key_at
  index_key_back =
      record {
        place_of = ifrom + ilead + 0;
        read = rw (delta_back s at m 2 (index_key raw) (le 8 page.0) w (omega arith) (omega arith) h8 hm few room lies, index_key_in) refl;
        bytes = lies_part s (ifrom + ilead + 0) (length raw) raw refl (subst (λ (j : ℕ). Lies s j raw) (omega arith) (index_rest s ifrom raw small ihere));
      }

  pub child_back : child_at s (addr at) ≡ Ok page
  unfolding child_at
  child_back =
      rw (
        delta_back s at m 2 (index_key raw) (le 8 page.0) w (omega arith) (omega arith) h8 hm few room lies,
        eq-eqb (ito + length (le 8 page.0)) (ito + 8) (omega (arith, length-le 8 page.0)),
        lies_le s ito 8 page.0 wp (val_lies s at m 2 (index_key raw) (le 8 page.0) w (omega arith) (omega arith) h8 hm few room lies),
      ) refl

-- ---- a leaf delta's value: in the delta, or behind its remote frame

no_hist_lem : SmallHist no_hist
no_hist_lem = record { page = omega arith; slot = omega arith; count = omega arith }

module _ (s : List ℕ) (at : ℕ) (m : Call) (key v : List ℕ) (w : Small m) (h8 : 8 ≤ at) (hm : at % 8 ≡ 0) (small : length v ≤ max_value)
    (few : length key + length (inline_bytes no_hist v) ≤ 1000000) (room : at + frame_len (8 + length key + length (inline_bytes no_hist v)) ≤ length s) (lies : Lies s at (delta_frame m 1 key (inline_bytes no_hist v))) where
  abbrev vfrom : ℕ
  vfrom = at + box_len + 8 + length key

  abbrev vto : ℕ
  vto = at + box_len + 8 + length key + length (inline_bytes no_hist v)

  vhere : Lies s vfrom (inline_bytes no_hist v)
  vhere = val_lies s at m 1 key (inline_bytes no_hist v) w (omega arith) (omega arith) h8 hm few room lies

  inline_in : val_in s (cut s at m 1 key (inline_bytes no_hist v) w (omega arith) (omega arith) h8 hm few room lies) ≡ Ok (place (vfrom + 5) (length v))
  unfolding val_in front_size
  inline_in =
      rw (
        inline_back (take vto s) vfrom no_hist v false (λ e. absurd (let z : ◌≡◌ {A = ℕ} 0 1 = cc in omega arith)) no_hist_lem small (lies_cut s vfrom vto (inline_bytes no_hist v) (omega arith) vhere),
        eq-eqb (vfrom + 5 + length v) vto (omega (arith, length_inline no_hist v)),
      )
      refl

  pub inline_value_back : ReadsValue s at v
  unfolding value_at front_size
  inline_value_back =
      record {
        place_of = vfrom + 5;
        read = rw (delta_back s at m 1 key (inline_bytes no_hist v) w (omega arith) (omega arith) h8 hm few room lies, inline_in) refl;
        bytes = lies_part s (vfrom + 5) (length v) v refl (inline_bytes_lem s vfrom no_hist v false (λ e. absurd (let z : ◌≡◌ {A = ℕ} 0 1 = cc in omega arith)) no_hist_lem small vhere);
      }

module _ (s : List ℕ) (at remote : ℕ) (m : Call) (key v : List ℕ) (w : Small m) (h8 : 8 ≤ at) (hm : at % 8 ≡ 0) (small : length v ≤ max_value)
    (few : length key + length (remote_bytes no_hist (length v) remote) ≤ 1000000) (room : at + frame_len (8 + length key + length (remote_bytes no_hist (length v) remote)) ≤ length s)
    (lies : Lies s at (delta_frame m 1 key (remote_bytes no_hist (length v) remote))) (f8 : 8 ≤ remote) (fm : remote % 8 ≡ 0) (flt : remote < 256 ^ 8) (froom : remote + frame_len (8 + length v) ≤ length s) (flies : Lies s remote (remote_frame m v)) where
  abbrev rfrom : ℕ
  rfrom = at + box_len + 8 + length key

  abbrev rto : ℕ
  rto = at + box_len + 8 + length key + length (remote_bytes no_hist (length v) remote)

  remote_in : val_in s (cut s at m 1 key (remote_bytes no_hist (length v) remote) w (omega arith) (omega arith) h8 hm few room lies) ≡ Ok (place (remote + box_len + 8) (length v))
  unfolding val_in front_size
  remote_in =
      rw (
        remote_back (take rto s) rfrom no_hist (length v) remote false (λ e. absurd (let z : ◌≡◌ {A = ℕ} 0 1 = cc in omega arith)) no_hist_lem small flt
            (lies_cut s rfrom rto (remote_bytes no_hist (length v) remote) (omega arith) (val_lies s at m 1 key (remote_bytes no_hist (length v) remote) w (omega arith) (omega arith) h8 hm few room lies)),
        remote_resolves s remote m v w f8 fm small froom flies,
        eq-eqb (rfrom + (5 + 8)) rto (omega (arith, length-remote no_hist (length v) remote)),
      )
      refl

  pub remote-value_back : ReadsValue s at v
  unfolding value_at
  remote-value_back =
      record {
        place_of = remote + box_len + 8;
        read = rw (delta_back s at m 1 key (remote_bytes no_hist (length v) remote) w (omega arith) (omega arith) h8 hm few room lies, remote_in) refl;
        bytes = lies_part s (remote + box_len + 8) (length v) v refl (remote_lies s remote m v w f8 fm small froom flies);
      }

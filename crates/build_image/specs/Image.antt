-- The bytes that a build writes: document 01, building rules 2 to 6, in its order. History pages with their remote frames, the leaf's
-- frame, the heads' remote frames; and an index page's frame.
-- Assumes nothing.
use Rattle.std.specs.Prelude.{ℕ, zero, suc, ◌+◌, ◌-◌, ◌*◌, List, [], ◌∷◌, ◌++◌, Bool, true, false, cond, length, take, drop, replicate, ltb, eqb}
use Rattle.numbers.specs.Number.{le}
use Rattle.frames.specs.declared.BoxHeader.{BoxHeader}
use Rattle.frames.specs.Layout.{base_len, box_base, box_remote, node_leaf, node_index, flag_sibling, addr, frame_len}
use Rattle.frames.specs.Stored.{box_bytes, page_bytes, base_of}
use Rattle.values.specs.declared.HistRef.{HistRef}
use Rattle.values.specs.Keys.{ver_bytes, leaf_key, index_key, index_key_size}
use Rattle.values.specs.Vals.{hist_of, no_hist, inline_bytes, remote_bytes, size_of}
use Rattle.build_paging.specs.Cuts.{cuts_from, cuts, total}
use Rattle.build_sources.specs.Source.{Entry, only, olds, heads}
use Rattle.build_image.specs.declared.Call.{Call}
use Rattle.build_image.specs.Sizes.{pad, remote_len, val_len, costs_of, remotes_len, key_len, old_run, sums, counted, room_of}

-- ---- headers

-- kind, node_type, flag, link and txid as given; group and lsn are the call's
abbrev pub box_of : Call → ℕ → ℕ → ℕ → ℕ → ℕ → ℕ → BoxHeader
box_of m payload kind node flag link txid =
    record { payload_size = payload; box_kind = kind; node_type = node; flag = flag; group = m.group; link = addr link; txid = txid; lsn = m.lsn }

-- of a page: payload_size, node_type, flag and link as given
abbrev pub page_box : Call → ℕ → ℕ → ℕ → ℕ → BoxHeader
page_box m payload node flag link = box_of m payload box_base node flag link m.txid

-- ---- values and remote frames

-- a remote's address: where its new frame will stand, or where it stands already
unfoldable pub remote_addr : ℕ → ℕ → ℕ
remote_addr remote kept = cond (eqb kept 0) remote kept

-- "Inline exactly when size is below the inline limit"
unfoldable pub val_bytes : ℕ → ℕ → HistRef → Entry → List ℕ
unfolding inline_bytes remote_bytes remote_addr
val_bytes limit remote h e = cond (ltb (length e.val) limit) (inline_bytes h e.val) (remote_bytes h (length e.val) (remote_addr remote e.kept))

-- "A remote frame has txid 0, node_type 1"; "Remote frame payload: size u64, bytes"
unfoldable pub remote_frame : Call → List ℕ → List ℕ
unfolding box_bytes le pad
remote_frame m v = box_bytes (box_of m (8 + length v) box_remote node_leaf 0 0 0) ++ (le 8 (length v) ++ (v ++ pad (8 + length v)))

-- the frame that an entry's value takes, if any
unfoldable pub remote_frame_of : Call → Entry → List ℕ
unfolding remote_frame
remote_frame_of m e = cond (ltb (length e.val) m.limit) [] (cond (eqb e.kept 0) (remote_frame m e.val) [])

unfoldable pub remote_frames : Call → List Entry → List ℕ
unfolding remote_frame_of
remote_frames m [] = []
remote_frames m (e ∷ es) = remote_frame_of m e ++ remote_frames m es

-- the addresses of remotes, as the hints list them
unfoldable pub remote_addrs : ℕ → ℕ → List Entry → List ℕ
unfolding remote_addr remote_len
remote_addrs limit remote [] = []
remote_addrs limit remote (e ∷ es) =
    cond (ltb (length e.val) limit) (remote_addrs limit remote es)
    (remote_addr remote e.kept ∷ remote_addrs limit (remote + remote_len limit (length e.val) e.kept) es)

-- ---- history pages (rules 3 and 4)

-- "History key: version only"; its value has no history
unfoldable pub old_rec : ℕ → ℕ → Entry → List ℕ
unfolding ver_bytes val_bytes
old_rec limit remote e = ver_bytes e.ver ++ val_bytes limit remote no_hist e

unfoldable pub old_recs : ℕ → ℕ → List Entry → List ℕ
unfolding old_rec remote_len
old_recs limit remote [] = []
old_recs limit remote (e ∷ es) = old_rec limit remote e ++ old_recs limit (remote + remote_len limit (length e.val) e.kept) es

-- "elems slots of u32 (record offset from the base header)"
unfoldable pub old_slots : ℕ → ℕ → List Entry → List ℕ
unfolding le size_of
old_slots limit off [] = []
old_slots limit off (e ∷ es) = le 4 off ++ old_slots limit (off + (12 + val_len limit e)) es

-- "(flag sibling, no boundaries, sibling id 0)"
unfoldable pub hist_head : Call → ℕ → ℕ → ℕ → List ℕ
unfolding page_bytes
hist_head m link n size = page_bytes (page_box m size node_leaf flag_sibling link) (base_of size n 0 0 0 0 0 0)

-- a history page that holds these
unfoldable pub hist_size : ℕ → List Entry → ℕ
unfolding total costs_of
hist_size limit es = base_len + total (costs_of limit es)

-- "each followed by its remote frames": the page at `at`
unfoldable pub hist_page : Call → ℕ → ℕ → List Entry → List ℕ
unfolding hist_head old_slots old_recs pad remote_frames hist_size
hist_page m at link es =
    hist_head m link (length es) (hist_size m.limit es)
    ++ (old_slots m.limit (base_len + 4 * length es) es
    ++ (old_recs m.limit (at + frame_len (hist_size m.limit es)) es ++ (pad (hist_size m.limit es) ++ remote_frames m es)))

-- where the next page stands
unfoldable pub page_end : ℕ → ℕ → List Entry → ℕ
unfolding hist_size remotes_len
page_end limit at es = at + frame_len (hist_size limit es) + remotes_len limit es

abbrev pub link_to : ℕ → List ℕ → ℕ
link_to next [] = 0
link_to next (n ∷ ns) = next

-- "each links to the next": the pages from `at` on, of as many as the cuts say
unfoldable pub history : Call → ℕ → List ℕ → List Entry → List ℕ
unfolding hist_page page_end
history m at [] es = []
history m at (n ∷ ns) es =
    hist_page m at (link_to (page_end m.limit at (take n es)) ns) (take n es) ++ history m (page_end m.limit at (take n es)) ns (drop n es)

unfoldable pub history_end : ℕ → ℕ → List ℕ → List Entry → ℕ
unfolding page_end
history_end limit at [] es = at
history_end limit at (n ∷ ns) es = history_end limit (page_end limit at (take n es)) ns (drop n es)

-- the pages' addresses
unfoldable pub starts : ℕ → ℕ → List ℕ → List Entry → List ℕ
unfolding page_end
starts limit at [] es = []
starts limit at (n ∷ ns) es = at ∷ starts limit (page_end limit at (take n es)) ns (drop n es)

-- and their remotes'
unfoldable pub hist_addrs : ℕ → ℕ → List ℕ → List Entry → List ℕ
unfolding remote_addrs page_end hist_size
hist_addrs limit at [] es = []
hist_addrs limit at (n ∷ ns) es =
    remote_addrs limit (at + frame_len (hist_size limit (take n es))) (take n es) ++ hist_addrs limit (page_end limit at (take n es)) ns (drop n es)

-- where each old version stands: its page and slot
pub record PageSlot : Type 0 where
  pub page : ℕ
  pub slot : ℕ

unfoldable pub places_in : ℕ → ℕ → ℕ → List PageSlot
places_in page slot zero = []
places_in page slot (suc n) = record { page = page; slot = slot } ∷ places_in page (slot + 1) n

unfoldable pub places : ℕ → ℕ → List ℕ → List Entry → List PageSlot
unfolding places_in page_end
places limit at [] es = []
places limit at (n ∷ ns) es = places_in at 0 n ++ places limit (page_end limit at (take n es)) ns (drop n es)

-- ---- the leaf page

-- "address u64, slot u16, count u32": the first of k old versions stands at the first of the places
abbrev pub ref_of : List PageSlot → ℕ → HistRef
ref_of [] k = hist_of 0 0 k
ref_of (p ∷ ps) k = hist_of p.page p.slot k

-- "Leaf key: length, version, key without the page's prefix"
unfoldable pub head_rec : ℕ → ℕ → ℕ → HistRef → Entry → List ℕ
unfolding leaf_key val_bytes
head_rec limit p remote h e = leaf_key e.ver (drop p e.key) ++ val_bytes limit remote h e

-- a head with k old versions behind it names the first of the places; each old version drops one
unfoldable pub head_recs : ℕ → ℕ → ℕ → List PageSlot → List Entry → List ℕ
unfolding head_rec remote_len old_run
head_recs limit p remote ps [] = []
head_recs limit p remote ps (e ∷ es) =
    cond e.old (head_recs limit p remote (drop 1 ps) es)
    (head_rec limit p remote (ref_of ps (old_run es)) e ++ head_recs limit p (remote + remote_len limit (length e.val) e.kept) ps es)

abbrev pub any : ℕ → Bool
any zero = false
any (suc k) = true

unfoldable pub head_slots : ℕ → ℕ → ℕ → List Entry → List ℕ
unfolding key_len le old_run size_of
head_slots limit p off [] = []
head_slots limit p off (e ∷ es) =
    cond e.old (head_slots limit p off es)
    (le 4 off ++ head_slots limit p (off + (key_len p (length e.key) + size_of (any (old_run es)) limit (length e.val))) es)

unfoldable pub les : ℕ → List ℕ → List ℕ
unfolding le
les k [] = []
les k (x ∷ xs) = le k x ++ les k xs

-- "u32 count and history addresses, u32 count and remote addresses"; the rest of the room is zero
unfoldable pub hints : ℕ → List ℕ → List ℕ → List ℕ
unfolding le les
hints room ps rs =
    cond (eqb room 0) []
    (le 4 (length ps) ++ (les 8 ps ++ (le 4 (length rs) ++ (les 8 rs ++ replicate (room - (8 + 8 * length ps + 8 * length rs)) 0))))

-- boundaries, the count of their common bytes, and the right sibling
pub record Borders : Type 0 where
  pub lo : List ℕ
  pub hi : List ℕ
  pub prefix : ℕ
  pub sibling : ℕ

-- where the first record stands: behind n slots and boundaries of these lengths
abbrev pub first_at : ℕ → ℕ → ℕ → ℕ
first_at n lo hi = base_len + 4 * n + lo + hi

abbrev pub first_of : Borders → ℕ → ℕ
first_of b n = first_at n (length b.lo) (length b.hi)

-- rule 5: "size is 40 + 4 per head + lo + hi + .."
unfoldable pub leaf_size : Call → Borders → List Entry → ℕ
unfolding sums only
leaf_size m b es = first_of b (length (heads es)) + sums m.limit b.prefix false es

abbrev pub cuts_of : Call → List Entry → List ℕ
cuts_of m es = cuts m.budget (costs_of m.limit (olds es))

unfoldable pub leaf_room : Call → List Entry → ℕ
unfolding room_of cuts_from costs_of only counted
leaf_room m es = room_of (length (cuts_of m es)) (counted m.limit es)

abbrev pub one_if : ℕ → ℕ
one_if zero = 0
one_if (suc k) = 1

-- the leaf's frame, which stands at `at`, behind history from `first` on
unfoldable pub leaf_frame : Call → Borders → ℕ → ℕ → List Entry → List ℕ
unfolding leaf_size leaf_room page_bytes head_slots head_recs places starts hist_addrs remote_addrs hints pad only cuts_from costs_of
leaf_frame m b first at es =
    let size = leaf_size m b es in
    let room = leaf_room m es in
    let remote = at + frame_len (size + room) in
    let recs = head_recs m.limit b.prefix remote (places m.limit first (cuts_of m es) (olds es)) es in
    page_bytes (page_box m (size + room) node_leaf 0 0) (base_of size (length (heads es)) b.sibling (length b.lo) (length b.hi) b.prefix 0 (one_if (length (olds es))))
    ++ (head_slots m.limit b.prefix (first_of b (length (heads es))) es
    ++ (b.lo
    ++ (b.hi
    ++ (recs
    ++ (replicate (size - (first_of b (length (heads es)) + length recs)) 0
    ++ (hints room (starts m.limit first (cuts_of m es) (olds es)) (hist_addrs m.limit first (cuts_of m es) (olds es) ++ remote_addrs m.limit remote (heads es))
    ++ pad (size + room)))))))

-- rule 4: "History pages come first .. Then the leaf page, then the heads' remote frames"
unfoldable pub leaf_image : Call → Borders → ℕ → List Entry → List ℕ
unfolding history history_end leaf_frame remote_frames cuts_from costs_of only
leaf_image m b at es =
    history m at (cuts_of m es) (olds es)
    ++ (leaf_frame m b at (history_end m.limit at (cuts_of m es) (olds es)) es ++ remote_frames m (heads es))

-- ---- the index page: no history, no hints

unfoldable pub index_recs : ℕ → List Entry → List ℕ
unfolding index_key le
index_recs p [] = []
index_recs p (e ∷ es) = index_key (drop p e.key) ++ (le 8 e.page ++ index_recs p es)

unfoldable pub index_key_len : ℕ → ℕ → ℕ
unfolding index_key_size
index_key_len p n = index_key_size (n - p)

unfoldable pub index_sums : ℕ → List Entry → ℕ
unfolding index_key_len
index_sums p [] = 0
index_sums p (e ∷ es) = index_key_len p (length e.key) + 8 + index_sums p es

unfoldable pub index_slots : ℕ → ℕ → List Entry → List ℕ
unfolding le index_key_len
index_slots p off [] = []
index_slots p off (e ∷ es) = le 4 off ++ index_slots p (off + (index_key_len p (length e.key) + 8)) es

-- by the lengths of the boundaries and of the prefix
abbrev pub index_size_at : ℕ → ℕ → ℕ → List Entry → ℕ
index_size_at lo hi p es = first_at (length es) lo hi + index_sums p es

unfoldable pub index_size : Borders → List Entry → ℕ
unfolding index_sums
index_size b es = index_size_at (length b.lo) (length b.hi) b.prefix es

unfoldable pub index_image : Call → Borders → List Entry → List ℕ
unfolding page_bytes index_slots index_recs pad index_size
index_image m b es =
    page_bytes (page_box m (index_size b es) node_index 0 0) (base_of (index_size b es) (length es) b.sibling (length b.lo) (length b.hi) b.prefix 1 0)
    ++ (index_slots b.prefix (first_of b (length es)) es ++ (b.lo ++ (b.hi ++ (index_recs b.prefix es ++ pad (index_size b es)))))

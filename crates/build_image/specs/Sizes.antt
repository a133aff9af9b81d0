-- Sizes of what a build writes: on numbers (limit, length, kept), then on entries.
-- Assumes nothing.
use Rattle.std.specs.Prelude.{ℕ, suc, ◌+◌, ◌-◌, ◌*◌, List, [], ◌∷◌, Bool, true, false, cond, length, replicate, ltb, eqb}
use Rattle.values.specs.Keys.{leaf_key_size}
use Rattle.frames.specs.Layout.{box_len, frame_len}
use Rattle.values.specs.Vals.{size_of}
use Rattle.build_sources.specs.Source.{Entry}

-- "unwritten bytes are zero": what rounds a frame of this payload up to 8
unfoldable pub pad : ℕ → List ℕ
pad payload = replicate (frame_len payload - (box_len + payload)) 0

-- the remote frame that a value of n bytes takes: none below the limit, and none where it keeps the one it has
unfoldable pub remote_len : ℕ → ℕ → ℕ → ℕ
remote_len limit n kept = cond (ltb n limit) 0 (cond (eqb kept 0) (frame_len (8 + n)) 0)

-- a value without history
abbrev pub val_len : ℕ → Entry → ℕ
val_len limit e = size_of false limit (length e.val)

-- rule 3: "each adds 12 + value size + 4"
unfoldable pub cost : ℕ → Entry → ℕ
unfolding size_of
cost limit e = 12 + val_len limit e + 4

unfoldable pub costs_of : ℕ → List Entry → List ℕ
unfolding cost
costs_of limit [] = []
costs_of limit (e ∷ es) = cost limit e ∷ costs_of limit es

-- the remote frames of some entries
unfoldable pub remotes_len : ℕ → List Entry → ℕ
unfolding remote_len
remotes_len limit [] = 0
remotes_len limit (e ∷ es) = remote_len limit (length e.val) e.kept + remotes_len limit es

-- a leaf key of n bytes in all, p of them the page's prefix
unfoldable pub key_len : ℕ → ℕ → ℕ
unfolding leaf_key_size
key_len p n = leaf_key_size (n - p)

-- how many old versions stand in front
unfoldable pub old_run : List Entry → ℕ
old_run [] = 0
old_run (e ∷ es) = cond e.old (suc (old_run es)) 0

-- rule 5: "head keys + head values without history + for each key with old versions, the whole size with history of its second
-- version's value"; h: the entry before is a head
unfoldable pub sums : ℕ → ℕ → Bool → List Entry → ℕ
unfolding key_len size_of
sums limit p h [] = 0
sums limit p h (e ∷ es) =
    cond e.old (cond h (size_of true limit (length e.val)) 0 + sums limit p false es)
    (key_len p (length e.key) + val_len limit e + sums limit p true es)

-- rule 6: "Room counts each value that arrives as a remote or is at or above the limit"
unfoldable pub counted : ℕ → List Entry → ℕ
counted limit [] = 0
counted limit (e ∷ es) = cond (ltb (length e.val) limit) (cond (eqb e.kept 0) 0 1) 1 + counted limit es

-- "none if there are no history pages and no remotes counted; else u32 count and history addresses, u32 count and remote addresses"
unfoldable pub room_of : ℕ → ℕ → ℕ
room_of pages remotes = cond (eqb (pages + remotes) 0) 0 (8 + 8 * pages + 8 * remotes)

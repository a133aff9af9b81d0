-- The rows of document 01's table that builds share.
-- Assumes nothing.
use Rattle.std.specs.Prelude.{ℕ, List, [], ◌∷◌, Bool, true, false, cond, ◌&&◌, length, take, leb, Option, Some, None}
use Rattle.frames.specs.declared.Refusal.{Refusal}
use Rattle.frames.specs.declared.Refusal.TheVariants.{BadList, OutOfOrder, WrongPrefix, Outside, TooBig, NoRoom}
use Rattle.frames.specs.Limits.{max_entries, max_key, max_size}
use Rattle.build_sources.specs.declared.Cursor.{Cursor}
use Rattle.build_sources.specs.Lists.{begun_of, first_of}
use Rattle.build_sources.specs.Source.{Entry, entries, well_formed}
use Rattle.build_sources.specs.Judged.{rising, prefixed, enclosed}
use Rattle.build_image.specs.Call.{limits_ok}
use Rattle.build_image.specs.Image.{Borders}
use Rattle.build_image.specs.Table.{Row, row}

-- 1 BAD LIMIT: ".. lo or hi over 4,096"; the rest of 1, and 2, are every call's (build_image, Call)
abbrev pub bounds_ok : List ℕ → List ℕ → Bool
bounds_ok lo hi = leb (length lo) max_key && leb (length hi) max_key

abbrev pub leaf_limits : ℕ → ℕ → List ℕ → List ℕ → Bool
leaf_limits limit budget lo hi = limits_ok limit budget && bounds_ok lo hi

-- 3 BAD LIST: "version not 1, count not what remains, header or entry cut short, key over 4,096, value over 65,536"; w is what lies
-- below the next free address
abbrev pub is_open : Option Cursor → Bool
is_open (Some c) = true
is_open None = false

abbrev pub list_ok : List ℕ → List ℕ → ℕ → Bool
list_ok l w source = is_open (begun_of l source) && well_formed l w (first_of source)

-- what a list comes to: bad (3) where it does not end well, else what its entries come to
unfoldable pub of_list {ℓ} : {X : Type ℓ} → List ℕ → List ℕ → ℕ → X → (List Entry → X) → X
unfolding well_formed entries
of_list l w source bad go = cond (well_formed l w (first_of source)) (go (entries l w (first_of source))) bad

-- 6 OUT OF ORDER: "an entry not above the one before"; 7 WRONG PREFIX: "a key .. does not begin with the page's prefix"; 10 OUTSIDE:
-- "a key below lo, or not below a nonempty hi, .. a lo not below a nonempty hi too, and a merge needs the left hi to equal the right lo"
-- (meets, true in a build of a list), "judged after 7 and before 8"; 8 TOO BIG: "over 65,535 entries .., or size plus hint room over
-- 16,777,216" (the page's payload); 9 NO ROOM: "next plus all rounded frames exceeds the arena" (end, len)
abbrev pub entry_rows : Bool → Borders → List Entry → ℕ → ℕ → ℕ → List Row
entry_rows meets b es payload end len =
    row (rising es) OutOfOrder
    ∷ row (prefixed (take b.prefix b.lo) es) WrongPrefix
    ∷ row (meets && enclosed b.lo b.hi es) Outside
    ∷ row (leb (length es) max_entries && leb payload max_size) TooBig
    ∷ row (leb end len) NoRoom
    ∷ []

-- what refuses entries that are not enclosed, or whose pages do not meet
abbrev pub outside_of : List ℕ → List Entry → Refusal
outside_of prefix es = cond (prefixed prefix es) Outside WrongPrefix

abbrev pub apart_of : List ℕ → List Entry → Refusal
apart_of prefix es = cond (rising es) (outside_of prefix es) OutOfOrder

-- why a list is refused whose entries are not all that is asked of them: 3, 6, 7, 10, else 8 ("over 65,535 entries")
unfoldable pub refusal_of : List ℕ → List ℕ → Cursor → Borders → Refusal
unfolding well_formed entries rising prefixed
refusal_of l w c b =
    let es = entries l w c in
    cond (well_formed l w c) (cond (rising es) (cond (enclosed b.lo b.hi es) TooBig (outside_of (take b.prefix b.lo) es)) OutOfOrder) BadList

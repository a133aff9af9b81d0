-- Values as a page holds them: flag, history reference, size, and the bytes or a remote's address.
-- Assumes nothing.
use Rattle.std.specs.Prelude.{ℕ, ◌+◌, List, [], ◌++◌, Bool, true, false, cond, ◌||◌, length, get_or, leb, ltb, eqb, Option, Some, None}
use Rattle.numbers.specs.Number.{le, le_at}
use Rattle.frames.specs.declared.Addr.{Addr}
use Rattle.frames.specs.Limits.{max_value}
use Rattle.values.specs.declared.HistRef.{HistRef}
use Rattle.values.specs.declared.Front.{Front}
use Rattle.values.specs.declared.Val.{Val}

abbrev pub addr_of : ℕ → Addr
addr_of a = record { 0 = a }

abbrev pub hist_of : ℕ → ℕ → ℕ → HistRef
hist_of page slot count = record { page = addr_of page; slot = slot; count = count }

abbrev pub no_hist : HistRef
no_hist = hist_of 0 0 0

-- ---- written

-- flag: 1 has history, 2 is remote, 3 both, 0 neither
unfoldable pub flag_of : ℕ → Bool → ℕ
flag_of count remote = cond (eqb count 0) 0 1 + cond remote 2 0

-- with history: address u64, slot u16, count u32; nothing where there is none
unfoldable pub hist_bytes : HistRef → List ℕ
hist_bytes h = cond (eqb h.count 0) [] (le 8 h.page.0 ++ (le 2 h.slot ++ le 4 h.count))

-- what stands before the bytes or the address: flag, history, size
unfoldable pub front_bytes : HistRef → Bool → ℕ → List ℕ
unfolding flag_of hist_bytes
front_bytes h remote n = le 1 (flag_of h.count remote) ++ (hist_bytes h ++ le 4 n)

unfoldable pub inline_bytes : HistRef → List ℕ → List ℕ
unfolding front_bytes
inline_bytes h v = front_bytes h false (length v) ++ v

unfoldable pub remote_bytes : HistRef → ℕ → ℕ → List ℕ
unfolding front_bytes
remote_bytes h n a = front_bytes h true n ++ le 8 a

-- the size of that front
unfoldable pub front_size : ℕ → ℕ
front_size count = cond (eqb count 0) 5 19

-- the whole size: 5 + n inline, exactly when n is below the limit, else 13; with history 14 more
abbrev pub hist_size : Bool → ℕ
hist_size has = cond has 14 0

unfoldable pub size_of : Bool → ℕ → ℕ → ℕ
size_of hist limit n = hist_size hist + cond (ltb n limit) (5 + n) 13

-- ---- read: history only where a head stands, count at least 1; size at most 65,536; all of it in the slice

-- what stands before a value's size: its history, whether its bytes are remote, and the place behind
abbrev pub front_places : HistRef → Bool → ℕ → Front
front_places h r n = record { hist = h; remote = r; next = n }

-- the fourteen bytes behind a flag with history
unfoldable pub ref_at : List ℕ → ℕ → Bool → Option Front
ref_at s at remote =
    cond (leb (at + 14) (length s))
    (cond (eqb (le_at 4 s (at + 10)) 0) None
    (Some (front_places (hist_of (le_at 8 s at) (le_at 2 s (at + 8)) (le_at 4 s (at + 10))) remote (at + 14))))
    None

-- flag and history
unfoldable pub front_at : List ℕ → ℕ → Bool → Option Front
unfolding ref_at
front_at s at head =
    cond (ltb at (length s))
    (cond (leb (get_or s at 0) 3)
    (cond (eqb (get_or s at 0) 0 || eqb (get_or s at 0) 2) (Some (front_places no_hist (eqb (get_or s at 0) 2) (at + 1)))
    (cond head (ref_at s (at + 1) (eqb (get_or s at 0) 3)) None))
    None)
    None

-- size, and the bytes or the address
abbrev pub val_of : List ℕ → Option Front → Option Val
val_of s (Some f) =
    cond (leb (f.next + 4) (length s))
    (cond (leb (le_at 4 s f.next) max_value)
    (cond f.remote
    (cond (leb (f.next + 12) (length s)) (Some (Val.Remote f.hist (addr_of (le_at 8 s (f.next + 4))) (le_at 4 s f.next) (f.next + 12))) None)
    (cond (leb (f.next + 4 + le_at 4 s f.next) (length s)) (Some (Val.Inline f.hist (f.next + 4) (le_at 4 s f.next) (f.next + 4 + le_at 4 s f.next))) None))
    None)
    None
val_of s None = None

unfoldable pub val_at : List ℕ → ℕ → Bool → Option Val
unfolding front_at
val_at s at head = val_of s (front_at s at head)

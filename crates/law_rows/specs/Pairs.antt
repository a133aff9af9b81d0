-- What an entry of a page says, without its mark and the address of its remote; and what is known of it.
-- Assumes nothing.
use Rattle.std.specs.Prelude.{ℕ, ◌≡◌, List, map}
use Rattle.order.specs.Version.{ver_of}
use Rattle.frames.specs.Layout.{page_id}
use Rattle.pages.specs.Meaning.{Child}
use Rattle.walks.specs.Listed as listed
use Rattle.build_sources.specs.Source.{Entry}
use Rattle.build_sources.specs.Marks.{Each, Marked, Short, Wide, Keeps}

-- a leaf's record: whole key, version, value
unfoldable pub bare : Entry → listed.Entry
bare e = record { key = e.key; ver = e.ver; value = e.val }

-- an index page's: whole key and the page that it leads to
unfoldable pub child : Entry → Child
child e = record { key = e.key; page = page_id e.page }

-- an entry of a page: its numbers have their widths, and a remote that it keeps holds its value
pub record Carried (w : List ℕ) (e : Entry) : Type 0 where
  pub wide : Wide e
  pub keeps : Keeps w e

-- a leaf's record leads to no page; an index page's has no version
abbrev pub NoPage : Entry → Type 0
NoPage e = e.page ≡ 0

abbrev pub NoVersion : Entry → Type 0
NoVersion e = e.ver ≡ ver_of 0 0

-- entries that say exactly these, in order, each of its kind (P), marked, short, their remotes in w
pub record Reads {A : Type 0} (tell : Entry → A) (P : Entry → Type 0) (w : List ℕ) (es : List Entry) (xs : List A) : Type 0 where
  pub list : map tell es ≡ xs
  pub kind : Each P es
  pub marks : Marked es
  pub short : Each Short es
  pub carried : Each (Carried w) es

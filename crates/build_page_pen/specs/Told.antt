-- An entry by what a page's readers tell of it: where its bytes stand in an arena, below the place that is written.
-- Assumes nothing.
use Rattle.std.specs.Prelude.{ℕ, ◌+◌, ◌*◌, ◌≤◌, List, [], ◌++◌, Bool, true, false}
use Rattle.spans.specs.Span.{part}
use Rattle.order.specs.declared.Ver.{Ver}
use Rattle.order.specs.Version.{ver_of}
use Rattle.frames.specs.declared.Body.{Body}
use Rattle.frames.specs.Layout.{base_len}
use Rattle.frames.specs.Limits.{max_key, max_value}
use Rattle.values.specs.Keys.{ver_in}
use Rattle.pages.specs.Meaning.{prefix_of}
use Rattle.build_sources.specs.Source.{Entry}
use Rattle.build_rows.specs.declared.Bytes.{Bytes}
use Rattle.build_rows.specs.declared.Old.{Old}
use Rattle.build_rows.specs.declared.Head.{Head}

-- kept is the address of a remote that it keeps, or 0
abbrev pub told : List ℕ → Bool → List ℕ → Ver → Bytes → ℕ → Entry
told w old key ver v kept = record { old = old; key = key; ver = ver; val = part w v.at v.len; kept = kept; page = 0 }

-- a value alone
abbrev pub value_told : List ℕ → Bytes → ℕ → Entry
value_told w v kept = told w true [] (ver_of 0 0) v kept

-- an old version; its key is nothing to what is stored of it
abbrev pub old_told : List ℕ → Old → ℕ → Entry
old_told w o kept = told w true [] (ver_in w o.ver_at) o.bytes kept

-- a head: its key is the page's prefix, then a rest
abbrev pub key_told : List ℕ → Body → ℕ → ℕ → List ℕ
key_told w b rest len = prefix_of w b ++ part w rest len

abbrev pub head_told : List ℕ → Body → Head → ℕ → Entry
head_told w b r kept = told w false (key_told w b (r.ver_at + 12) r.rest_len) (ver_in w r.ver_at) r.bytes kept

-- they stand below a place, and keep document 01's lengths
pub record ValueBelow (low : ℕ) (v : Bytes) : Type 0 where
  pub all : v.at + v.len ≤ low
  pub small : v.len ≤ max_value

pub record OldBelow (low : ℕ) (o : Old) : Type 0 where
  pub ver : o.ver_at + 12 ≤ low
  pub value : ValueBelow low o.bytes

pub record KeyBelow (low : ℕ) (b : Body) (rest len : ℕ) : Type 0 where
  pub prefix : b.at + base_len + 4 * b.elems + b.prefix_len ≤ low
  pub all : rest + len ≤ low
  pub small : b.prefix_len + len ≤ max_key

pub record HeadBelow (low : ℕ) (b : Body) (r : Head) : Type 0 where
  pub key : KeyBelow low b (r.ver_at + 12) r.rest_len
  pub value : ValueBelow low r.bytes

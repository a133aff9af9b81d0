-- The head that a search of a leaf finds, by its halving, on every arena, address and probe. Only its key is read: whether its value is
-- judged is for those that hand it back.
-- Assumes nothing.
use Rattle.std.specs.Prelude.{ℕ, ◌+◌, List, Option, Some, None, Result, Ok, Err}
use Rattle.frames.specs.declared.Addr.{Addr}
use Rattle.frames.specs.declared.Body.{Body}
use Rattle.frames.specs.declared.Refusal.{Refusal}
use Rattle.values.specs.Keys.{ver_in}
use Rattle.records.specs.Records.{key_at_slot}
use Rattle.sst.specs.Search.{leaves, outcome_at}
use Rattle.search_head.specs.declared.Head.{Head}
use Rattle.sst.specs.declared.Halved.{Halved}
use Rattle.sst.specs.declared.Outcome.{Outcome}
use Rattle.values.specs.declared.KeyParts.{KeyParts}

-- a key is followed by its value
abbrev pub head_key : List ℕ → Body → ℕ → ℕ → Option KeyParts → Result Head Refusal
head_key s b i reads (Some k) = Ok (Head.Is b i (ver_in s k.ver_at) (k.rest_at + k.rest_len) reads)
head_key s b i reads None = Err Refusal.BadFrame

unfoldable pub head_slot : List ℕ → Body → ℕ → ℕ → Result Head Refusal
head_slot s b i reads = head_key s b i reads (key_at_slot s b i)

abbrev pub head_in : List ℕ → Body → Option Halved → Result Head Refusal
head_in s b (Some (Halved.At i n)) = head_slot s b i n
head_in s b (Some (Halved.End p n)) = Ok (Head.Nothing n)
head_in s b None = Err Refusal.BadFrame

abbrev pub head_of : List ℕ → Option Outcome → Result Head Refusal
head_of s (Some (Outcome.Stands b h)) = head_in s b h
head_of s (Some Outcome.Empty) = Ok (Head.Nothing 0)
head_of s None = Err Refusal.BadFrame

unfoldable pub head_at : List ℕ → Addr → List ℕ → Result Head Refusal
head_at s a probe = head_of s (outcome_at s a probe leaves)

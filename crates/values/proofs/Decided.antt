-- No second answer fits the contract of a public call. `Post` is the contract as the check reads it, so a contract that is weakened fails here.
-- Assumes nothing.
use mathlib.Core.Path.{◌≡◌}
use mathlib.Core.List.{List}
use mathlib.Core.Bool.{Bool}
use Prim.Native.Nat.{ℕ}
use contract.Lifetimes.{Lfts}
use denote.MutBor.{MutBor}
use denote.Ref.{Bor}
use denote.Triple.Clauses.{AtExit}
use Rattle.spans.specs.Only.{Decides, decides}
use Rattle.spans.proofs.Put.{stored_decided}
use Rattle.frames.specs.declared.Addr.{Addr}
use Rattle.order.specs.declared.Ver.{Ver}
use Rattle.values.specs.declared.HistRef.{HistRef}
use Rattle.values.specs.Keys.{key_at}
use Rattle.values.specs.Vals.{size_of, val_at}
use Rattle.values.specs.contracts.key_at as key-at_fn
use Rattle.values.proofs.key_at.Reads as key-at
use Rattle.values.specs.contracts.Val.decode_from as decode_fn
use Rattle.values.proofs.Val.decode_from.Reads as decode
use Rattle.values.specs.contracts.Val.calc_size as calc_fn
use Rattle.values.proofs.Val.calc_size.Reads as calc
use Rattle.values.specs.contracts.write_ver as write_ver_fn
use Rattle.values.proofs.write_ver.Reads as write_ver
use Rattle.values.specs.contracts.write_leaf_front as leaf_front_fn
use Rattle.values.proofs.write_leaf_front.Reads as leaf_front_lem
use Rattle.values.specs.contracts.write_leaf_key as leaf_key_fn
use Rattle.values.proofs.write_leaf_key.Reads as leaf_key_lem
use Rattle.values.specs.contracts.write_index_key as index_key_fn
use Rattle.values.proofs.write_index_key.Reads as index_key_lem
use Rattle.values.specs.contracts.Val.write_front as front_fn
use Rattle.values.proofs.Val.write_front.Reads as front
use Rattle.values.specs.contracts.Val.encode_inline as inline_fn
use Rattle.values.proofs.Val.encode_inline.Reads as inline
use Rattle.values.specs.contracts.Val.encode_remote as remote_fn
use Rattle.values.proofs.Val.encode_remote.Reads as remote
use Rattle.std.proofs.Common.{Option}
use Rattle.values.specs.declared.KeyParts.{KeyParts}
use Rattle.values.specs.declared.Val.{Val}

-- ---- readers and sizes

module _ (κs : Lfts 1) (s : Bor (List ℕ)) (at : ℕ) where
  pub key-at_decided : (kind : ℕ) (e : AtExit key-at_fn.ended κs) → Decides (λ (r : Option KeyParts). key-at.Post κs (s, (at, (kind, tt))) r e) (λ (r : Option KeyParts). r)
  key-at_decided kind e = decides (λ (r : Option KeyParts). r) (key_at s.now at kind)

  pub decode_decided : (head : Bool) (e : AtExit decode_fn.ended κs) → Decides (λ (r : Option Val). decode.Post κs (s, (at, (head, tt))) r e) (λ (r : Option Val). r)
  decode_decided head e = decides (λ (r : Option Val). r) (val_at s.now at head)

pub calc_size_decided : (has : Bool) (limit n : ℕ) (e : AtExit calc_fn.ended tt) → Decides (λ (r : ℕ). calc.Post tt (has, (limit, (n, tt))) r e) (λ (r : ℕ). r)
calc_size_decided has limit n e = decides (λ (r : ℕ). r) (size_of has limit n)

-- ---- writers: the count and the buffer afterwards

module _ (buf : MutBor (List ℕ)) (at r r' : ℕ) where
  module _ (κs : Lfts 1) where
    pub write_ver_decided : (v : Ver) (e e' : AtExit write_ver_fn.ended κs) → write_ver.Post κs (buf, (at, (v, tt))) r e → write_ver.Post κs (buf, (at, (v, tt))) r' e' → (r ≡ r') × (e.0.now ≡ e'.0.now)
    write_ver_decided v e e' h k = stored_decided r r' e.0.now e'.0.now h k

    pub leaf_front_decided : (v : Ver) (n : ℕ) (e e' : AtExit leaf_front_fn.ended κs) → leaf_front_lem.Post κs (buf, (at, (v, (n, tt)))) r e → leaf_front_lem.Post κs (buf, (at, (v, (n, tt)))) r' e' → (r ≡ r') × (e.0.now ≡ e'.0.now)
    leaf_front_decided v n e e' h k = stored_decided r r' e.0.now e'.0.now h k

    pub front_decided : (g : HistRef) (is_remote : Bool) (n : ℕ) (e e' : AtExit front_fn.ended κs) → front.Post κs (buf, (at, (g, (is_remote, (n, tt))))) r e → front.Post κs (buf, (at, (g, (is_remote, (n, tt))))) r' e' → (r ≡ r') × (e.0.now ≡ e'.0.now)
    front_decided g is_remote n e e' h k = stored_decided r r' e.0.now e'.0.now h k

    pub remote_decided : (g : HistRef) (n : ℕ) (a : Addr) (e e' : AtExit remote_fn.ended κs) → remote.Post κs (buf, (at, (g, (n, (a, tt))))) r e → remote.Post κs (buf, (at, (g, (n, (a, tt))))) r' e' → (r ≡ r') × (e.0.now ≡ e'.0.now)
    remote_decided g n a e e' h k = stored_decided r r' e.0.now e'.0.now h k

  module _ (κs : Lfts 2) (x : Bor (List ℕ)) where
    pub leaf_key_decided : (v : Ver) (e e' : AtExit leaf_key_fn.ended κs) → leaf_key_lem.Post κs (buf, (at, (v, (x, tt)))) r e → leaf_key_lem.Post κs (buf, (at, (v, (x, tt)))) r' e' → (r ≡ r') × (e.0.now ≡ e'.0.now)
    leaf_key_decided v e e' h k = stored_decided r r' e.0.now e'.0.now h k

    pub index_key_decided : (e e' : AtExit index_key_fn.ended κs) → index_key_lem.Post κs (buf, (at, (x, tt))) r e → index_key_lem.Post κs (buf, (at, (x, tt))) r' e' → (r ≡ r') × (e.0.now ≡ e'.0.now)
    index_key_decided e e' h k = stored_decided r r' e.0.now e'.0.now h k

    pub inline_decided : (g : HistRef) (e e' : AtExit inline_fn.ended κs) → inline.Post κs (buf, (at, (g, (x, tt)))) r e → inline.Post κs (buf, (at, (g, (x, tt)))) r' e' → (r ≡ r') × (e.0.now ≡ e'.0.now)
    inline_decided g e e' h k = stored_decided r r' e.0.now e'.0.now h k

-- The text of a list's runs, a step at a time.
use Rattle.std.proofs.Common.{◌≡◌, ℕ, zero, suc, ◌+◌, ◌<◌, ◌≤◌, List, [], ◌∷◌, ◌++◌, length, take, take_all, ◌-◌, drop, arith, refl, sym, ap, ◌∙◌, subst, nat_lt, true, false, le_refl, append_assoc, length-drop}
use Rattle.std.proofs.lemmas.Bool.Decides.{nat_tests}
use Rattle.std.specs.Io.KnownBytes.{Appends}
use Rattle.std.proofs.KnownBytes.{Appends-nil, Appends-trans}
use Rattle.std.specs.declared.option.Option.{Option}
use Rattle.replay_text.specs.Text.{hex_of, run_length, run_mark, runs_within}

is_below : (a b : ℕ) → a < b → nat_lt a b ≡ true
is_below a b h = grind (arith, nat_tests)

is_not_below : (a b : ℕ) → b ≤ a → nat_lt a b ≡ false
is_not_below a b h = grind (arith, nat_tests)

-- a writer went from a to b, and what it took and what rest is still to give are the text of the whole list
pub record Told (a b : Option (List ℕ)) (s rest : List ℕ) : Type 0 where
  pub fuel : ℕ
  pub text : List ℕ
  pub room : length rest ≤ fuel
  pub same : text ++ runs_within fuel rest ≡ runs_within (length s) s
  pub told : Appends a b text

pub told_first : (a : Option (List ℕ)) (s : List ℕ) → Told a a s s
told_first a s = record { fuel = length s; text = []; room = le_refl _; same = refl; told = Appends-nil a }

-- a list gives piece, and then rest
record Gives (k : ℕ) (list rest piece : List ℕ) : Type 0 where
  fuel : ℕ
  room : length rest ≤ fuel
  same : runs_within k list ≡ piece ++ runs_within fuel rest

gives_short : (k x : ℕ) (tail : List ℕ) → length (x ∷ tail) ≤ k → run_length x tail < 3 → Gives k (x ∷ tail) tail (hex_of x)
gives_short zero x tail room short = absurd (omega arith)
gives_short (suc k) x tail room short = record { fuel = k; room = omega arith; same = rw (is_below (run_length x tail) 3 short) }

gives_long : (k x : ℕ) (tail : List ℕ) → length (x ∷ tail) ≤ k → 3 ≤ run_length x tail
    → Gives k (x ∷ tail) (drop (run_length x tail) tail) (hex_of x ++ run_mark (1 + run_length x tail))
gives_long zero x tail room long = absurd (omega arith)
gives_long (suc k) x tail room long =
    record { fuel = k; room = omega (arith, length-drop (run_length x tail) tail); same = rw (is_not_below (run_length x tail) 3 long) }

step : (a b c : Option (List ℕ)) (s list rest piece : List ℕ) → Told a b s list → ((k : ℕ) → length list ≤ k → Gives k list rest piece) → Appends b c piece → Told a c s rest
step a b c s list rest piece t gives more =
    let x = gives t.fuel t.room in
    record {
      fuel = x.fuel;
      text = t.text ++ piece;
      room = x.room;
      same = append_assoc t.text piece (runs_within x.fuel rest) ∙ ap (λ l. t.text ++ l) (sym x.same) ∙ t.same;
      told = Appends-trans a b c t.text piece t.told more;
    }

-- a byte of a run of at most three
pub told_short : (a b c : Option (List ℕ)) (s : List ℕ) (x : ℕ) (tail : List ℕ) → run_length x tail < 3 → Told a b s (x ∷ tail) → Appends b c (hex_of x) → Told a c s tail
told_short a b c s x tail short t more = step a b c s (x ∷ tail) tail _ t (λ k room. gives_short k x tail room short) more

-- a longer run, of n bytes behind the first
pub told_long : (a b c d : Option (List ℕ)) (s : List ℕ) (x : ℕ) (tail : List ℕ) (n : ℕ) → n ≡ run_length x tail → 3 ≤ n → Told a b s (x ∷ tail)
    → Appends b c (hex_of x) → Appends c d (run_mark (n + 1)) → Told a d s (take (length tail - n) (drop n tail))
told_long a b c d s x tail n e long t first second =
    let count : n + 1 ≡ 1 + run_length x tail = omega (arith, e) in
    let cut : take (length tail - n) (drop n tail) ≡ drop (run_length x tail) tail = take_all _ _ (omega (arith, length-drop n tail)) ∙ ap (λ m. drop m tail) e in
    let long' : 3 ≤ run_length x tail = omega (arith, e) in
    let more = Appends-trans b c d _ _ first (subst (λ (m : ℕ). Appends c d (run_mark m)) count second) in
    subst (Told a d s) (sym cut) (step a b d s (x ∷ tail) _ _ t (λ k room. gives_long k x tail room long') more)

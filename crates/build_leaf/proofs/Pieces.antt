-- A leaf's bytes cut into stretches: those that no entry tells are stored, the entries' are left. Over any bytes, so that it is checked once.
-- Assumes nothing.
use mathlib.Core.Path.{◌≡◌, refl, sym, ap, ◌∙◌, subst}
use mathlib.Core.List.{List, [], ◌∷◌, ◌++◌, append-nil, append_assoc}
use mathlib.Core.Bool.{Bool, true, false, cond}
use Prim.Native.Nat.{ℕ, ◌+◌, ◌-◌, ◌*◌, ◌≤◌}
use native.Mathlib.Omega.{arith}
use borrow.Author.Tests.{eqb-true, eqb-false}
use lib.Dec.{eqb}
use lib.ListN.{length, replicate, length-append}
use Rattle.spans.specs.Span.{put}
use Rattle.numbers.specs.Number.{le}
use Rattle.numbers.proofs.Numbers.{length-le}
use Rattle.build_image.specs.Image.{les, hints}
use Rattle.build_image.proofs.Leaf.{length-les}
use Rattle.build_pen.specs.Stretches.{Stretch, stretch, Drawing}
use Rattle.build_pen.proofs.Drawn.{drew}
use Rattle.build_pen.proofs.Cutting.{cut, gone}
use Rattle.build_leaf.specs.declared.HintPlaces.{HintPlaces}
use Rattle.build_leaf.specs.Listed.{hint_places, hints_set}

les-append : (xs ys : List ℕ) → les 8 (xs ++ ys) ≡ les 8 xs ++ les 8 ys
unfolding les
les-append [] ys = refl
les-append (x ∷ xs) ys = ap (λ (z : List ℕ). le 8 x ++ z) (les-append xs ys) ∙ sym (append_assoc (le 8 x) (les 8 xs) (les 8 ys))

module _ (a₀ : List ℕ) (low : ℕ) (whole : List ℕ) (hist head slots lo hi recs tail hs over frames frame : List ℕ) (at leaf s x y rec z q w remote end : ℕ)
    (d : Drawing a₀ low whole a₀ (stretch at (hist ++ (frame ++ frames)) ∷ []) end) (ef : frame ≡ head ++ (slots ++ (lo ++ (hi ++ (recs ++ (tail ++ (hs ++ over)))))))
    (e₁ : leaf ≡ at + length hist) (e₂ : s ≡ leaf + length head) (e₃ : x ≡ s + length slots) (e₄ : y ≡ x + length lo) (e₅ : rec ≡ y + length hi) (e₆ : z ≡ rec + length recs) (e₇ : q ≡ z + length tail)
    (e₈ : w ≡ q + length hs) (e₉ : remote ≡ leaf + length frame) where
  abbrev H : Stretch
  H = stretch at hist

  abbrev F : List Stretch
  F = stretch remote frames ∷ []

  d₁ : Drawing a₀ low whole a₀ (H ∷ stretch leaf (frame ++ frames) ∷ []) end
  d₁ = cut a₀ low whole a₀ [] at _ hist (frame ++ frames) [] end leaf d refl e₁

  d₂ : Drawing a₀ low whole a₀ (H ∷ stretch leaf frame ∷ F) end
  d₂ = cut a₀ low whole a₀ (H ∷ []) leaf _ frame frames [] end remote d₁ refl e₉

  abbrev a₁ : List ℕ
  a₁ = put a₀ leaf head

  d₃ : Drawing a₀ low whole a₁ (H ∷ stretch s (slots ++ (lo ++ (hi ++ (recs ++ (tail ++ (hs ++ over)))))) ∷ F) end
  d₃ = drew a₀ low whole a₀ (H ∷ []) leaf _ head _ F end a₁ s d₂ ef refl e₂

  abbrev S : Stretch
  S = stretch s slots

  d₄ : Drawing a₀ low whole a₁ (H ∷ S ∷ stretch x (lo ++ (hi ++ (recs ++ (tail ++ (hs ++ over))))) ∷ F) end
  d₄ = cut a₀ low whole a₁ (H ∷ []) s _ slots _ F end x d₃ refl e₃

  abbrev a₂ : List ℕ
  a₂ = put a₁ x lo

  d₅ : Drawing a₀ low whole a₂ (H ∷ S ∷ stretch y (hi ++ (recs ++ (tail ++ (hs ++ over)))) ∷ F) end
  d₅ = drew a₀ low whole a₁ (H ∷ S ∷ []) x _ lo _ F end a₂ y d₄ refl refl e₄

  abbrev a₃ : List ℕ
  a₃ = put a₂ y hi

  d₆ : Drawing a₀ low whole a₃ (H ∷ S ∷ stretch rec (recs ++ (tail ++ (hs ++ over))) ∷ F) end
  d₆ = drew a₀ low whole a₂ (H ∷ S ∷ []) y _ hi _ F end a₃ rec d₅ refl refl e₅

  d₇ : Drawing a₀ low whole a₃ (H ∷ S ∷ stretch rec recs ∷ stretch z (tail ++ (hs ++ over)) ∷ F) end
  d₇ = cut a₀ low whole a₃ (H ∷ S ∷ []) rec _ recs _ F end z d₆ refl e₆

  d₈ : Drawing a₀ low whole a₃ (H ∷ S ∷ stretch rec recs ∷ stretch z tail ∷ stretch q (hs ++ over) ∷ F) end
  d₈ = cut a₀ low whole a₃ (H ∷ S ∷ stretch rec recs ∷ []) z _ tail _ F end q d₇ refl e₇

  d₉ : Drawing a₀ low whole a₃ (H ∷ S ∷ stretch rec recs ∷ stretch z tail ∷ stretch q hs ∷ stretch w over ∷ F) end
  d₉ = cut a₀ low whole a₃ (H ∷ S ∷ stretch rec recs ∷ stretch z tail ∷ []) q _ hs _ F end w d₈ refl e₈

  pub pieces : Drawing a₀ low whole (put a₃ w over) (H ∷ S ∷ stretch rec recs ∷ stretch z tail ∷ stretch q hs ∷ F) end
  pieces =
      gone a₀ low whole (put a₃ w over) (H ∷ S ∷ stretch rec recs ∷ stretch z tail ∷ stretch q hs ∷ []) (w + length over) [] F end
      (drew a₀ low whole a₃ (H ∷ S ∷ stretch rec recs ∷ stretch z tail ∷ stretch q hs ∷ []) w _ over [] F end (put a₃ w over) (w + length over) d₉ (sym (append-nil over)) refl refl) refl

-- ---- the hints: counts and spare zeros are stored, three lists of addresses are left

nothing : (xs : List ℕ) → length xs ≡ 0 → xs ≡ []
nothing [] e = refl
nothing (x ∷ xs) e = absurd (omega (arith, e))

module _ (a₀ : List ℕ) (low : ℕ) (whole a : List ℕ) (h s r t f : Stretch) (q room pages remotes aged end : ℕ) (ps xs ys : List ℕ) (ep : pages ≡ length ps) (er : remotes ≡ length (xs ++ ys)) (eg : aged ≡ length xs)
    (none : room ≡ 0 → (length ps ≡ 0) × (length (xs ++ ys) ≡ 0)) (fits : (room ≡ 0 → ⊥) → 8 + 8 * pages + 8 * remotes ≤ room)
    (d : Drawing a₀ low whole a (h ∷ s ∷ r ∷ t ∷ stretch q (hints room ps (xs ++ ys)) ∷ f ∷ []) end) where
  abbrev Left : List ℕ → HintPlaces → Type 0
  Left b k = Drawing a₀ low whole b (h ∷ s ∷ r ∷ t ∷ stretch k.pages (les 8 ps) ∷ stretch k.olds (les 8 xs) ∷ stretch k.heads (les 8 ys) ∷ f ∷ []) end

  -- no room, no hints
  without : eqb room 0 ≡ true → Left a (record { pages = q; olds = q; heads = q })
  unfolding hints les
  without b =
      let z = none (eqb-true room 0 b) in
      let zx = nothing ps z.0 in
      let l = length-append xs ys in
      let zs = nothing xs (omega (arith, z.1, l)) in
      let zy = nothing ys (omega (arith, z.1, l)) in
      let d₀ : Drawing a₀ low whole a (h ∷ s ∷ r ∷ t ∷ stretch q [] ∷ f ∷ []) end = rw b at d in
      let d₁ = cut a₀ low whole a (h ∷ s ∷ r ∷ t ∷ []) q [] [] [] (f ∷ []) end q d₀ refl (omega arith) in
      let d₂ = cut a₀ low whole a (h ∷ s ∷ r ∷ t ∷ stretch q [] ∷ []) q [] [] [] (f ∷ []) end q d₁ refl (omega arith) in
      rw (zx, zs, zy) d₂

  abbrev p : ℕ
  p = q + 4

  abbrev c : ℕ
  c = p + 8 * pages

  abbrev o : ℕ
  o = c + 4

  abbrev g : ℕ
  g = o + 8 * aged

  abbrev z : ℕ
  z = o + 8 * remotes

  abbrev zeros : List ℕ
  zeros = replicate (q + room - z) 0

  abbrev b₁ : List ℕ
  b₁ = put a q (le 4 pages)

  abbrev b₂ : List ℕ
  b₂ = put b₁ c (le 4 remotes)

  plainly : (rs : List ℕ) → eqb room 0 ≡ false → hints room ps rs ≡ le 4 (length ps) ++ (les 8 ps ++ (le 4 (length rs) ++ (les 8 rs ++ replicate (room - (8 + 8 * length ps + 8 * length rs)) 0)))
  unfolding hints
  plainly rs b = rw b refl

  open_by : eqb room 0 ≡ false → hints room ps (xs ++ ys) ≡ le 4 pages ++ (les 8 ps ++ (le 4 remotes ++ (les 8 xs ++ (les 8 ys ++ zeros))))
  open_by b =
      let fit = fits (eqb-false room 0 b) in
      let n : room - (8 + 8 * length ps + 8 * length (xs ++ ys)) ≡ q + room - z = omega (arith, ep, er, fit) in
      plainly (xs ++ ys) b
      ∙ ap (λ (k : ℕ). le 4 k ++ (les 8 ps ++ (le 4 (length (xs ++ ys)) ++ (les 8 (xs ++ ys) ++ replicate (room - (8 + 8 * length ps + 8 * length (xs ++ ys))) 0)))) (sym ep)
      ∙ ap (λ (k : ℕ). le 4 pages ++ (les 8 ps ++ (le 4 k ++ (les 8 (xs ++ ys) ++ replicate (room - (8 + 8 * length ps + 8 * length (xs ++ ys))) 0)))) (sym er)
      ∙ ap (λ (k : ℕ). le 4 pages ++ (les 8 ps ++ (le 4 remotes ++ (les 8 (xs ++ ys) ++ replicate k 0)))) n
      ∙ ap (λ (w : List ℕ). le 4 pages ++ (les 8 ps ++ (le 4 remotes ++ w))) (ap (λ (w : List ℕ). w ++ zeros) (les-append xs ys) ∙ append_assoc (les 8 xs) (les 8 ys) zeros)

  with : eqb room 0 ≡ false → Left (put b₂ z zeros) (record { pages = p; olds = o; heads = g })
  with b =
      let d₁ = drew a₀ low whole a (h ∷ s ∷ r ∷ t ∷ []) q _ (le 4 pages) (les 8 ps ++ (le 4 remotes ++ (les 8 xs ++ (les 8 ys ++ zeros)))) (f ∷ []) end b₁ p d (open_by b) refl (omega (arith, length-le 4 pages)) in
      let d₂ = cut a₀ low whole b₁ (h ∷ s ∷ r ∷ t ∷ []) p _ (les 8 ps) (le 4 remotes ++ (les 8 xs ++ (les 8 ys ++ zeros))) (f ∷ []) end c d₁ refl (omega (arith, length-les ps, ep)) in
      let d₃ = drew a₀ low whole b₁ (h ∷ s ∷ r ∷ t ∷ stretch p (les 8 ps) ∷ []) c _ (le 4 remotes) (les 8 xs ++ (les 8 ys ++ zeros)) (f ∷ []) end b₂ o d₂ refl refl (omega (arith, length-le 4 remotes)) in
      let d₄ = cut a₀ low whole b₂ (h ∷ s ∷ r ∷ t ∷ stretch p (les 8 ps) ∷ []) o _ (les 8 xs) (les 8 ys ++ zeros) (f ∷ []) end g d₃ refl (omega (arith, length-les xs, eg)) in
      let d₅ = cut a₀ low whole b₂ (h ∷ s ∷ r ∷ t ∷ stretch p (les 8 ps) ∷ stretch o (les 8 xs) ∷ []) g _ (les 8 ys) zeros (f ∷ []) end z d₄ refl (omega (arith, length-les ys, length-append xs ys, er, eg)) in
      let d₆ = drew a₀ low whole b₂ (h ∷ s ∷ r ∷ t ∷ stretch p (les 8 ps) ∷ stretch o (les 8 xs) ∷ stretch g (les 8 ys) ∷ []) z _ zeros [] (f ∷ []) end (put b₂ z zeros) (z + length zeros) d₅ (sym (append-nil zeros)) refl refl in
      gone a₀ low whole (put b₂ z zeros) (h ∷ s ∷ r ∷ t ∷ stretch p (les 8 ps) ∷ stretch o (les 8 xs) ∷ stretch g (les 8 ys) ∷ []) (z + length zeros) [] (f ∷ []) end d₆ refl

  by : (b : Bool) → eqb room 0 ≡ b → Left (cond b a (put b₂ z zeros)) (cond b (record { pages = q; olds = q; heads = q }) (record { pages = p; olds = o; heads = g }))
  by true e = without e
  by false e = with e

  pub hint-left : (k : HintPlaces) → k ≡ hint_places room q pages aged → (b : List ℕ) → b ≡ hints_set room q pages remotes a
      → Drawing a₀ low whole b (h ∷ s ∷ r ∷ t ∷ stretch k.pages (les 8 ps) ∷ stretch k.olds (les 8 xs) ∷ stretch k.heads (les 8 ys) ∷ f ∷ []) end
  unfolding hints_set
  hint-left k ek b eb = subst (λ (v : HintPlaces). Left b v) (sym ek) (subst (λ (v : List ℕ). Left v (hint_places room q pages aged)) (sym eb) (by (eqb room 0) refl))

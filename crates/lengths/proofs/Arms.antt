-- An arm of a match that several kinds share.
-- Assumes nothing.
use mathlib.Core.Path.{◌≡◌, refl, sym, ap, ◌∙◌}
use mathlib.Core.List.{List, [], ◌∷◌, map}
use mathlib.Core.Logic.{inl, inr}
use Prim.Native.Nat.{ℕ}
use lib.ListN.{get_or}
use denote.Enum.Declared.{tag_of}
use types.Run.{OneOf}
use Rattle.aries.specs.declared.block.Kind.{Kind}
use Rattle.aries.specs.declared.block.Kind.TheVariants.{G26, G28, G29, G36, G37, G50, G70, G72, G75, G76, G92, G93, G98, Position, Lone, LetterM, LetterB, LetterU, LetterV, LetterW, G66, G73}
use Rattle.aries.specs.contracts.block.Kind as Declared

-- the place of a kind among all of them
abbrev place : Kind → ℕ
place k = tag_of Declared.the_type k

abbrev places : List Kind → List ℕ
places [] = []
places (k ∷ ks) = place k ∷ places ks

-- all kinds, in the order of their declaration
abbrev kinds : List Kind
kinds =
    G26 ∷ G28 ∷ G29 ∷ G36 ∷ G37 ∷ G50 ∷ G70 ∷ G72 ∷ G75 ∷ G76 ∷ G92 ∷ G93 ∷ G98 ∷ Position ∷ Lone ∷ LetterM ∷ LetterB ∷ LetterU ∷ LetterV ∷ LetterW ∷ G66 ∷ G73 ∷ []

-- a kind stands at its place
at_place : (k : Kind) → get_or kinds (place k) Lone ≡ k
at_place G26 = refl
at_place G28 = refl
at_place G29 = refl
at_place G36 = refl
at_place G37 = refl
at_place G50 = refl
at_place G70 = refl
at_place G72 = refl
at_place G75 = refl
at_place G76 = refl
at_place G92 = refl
at_place G93 = refl
at_place G98 = refl
at_place Position = refl
at_place Lone = refl
at_place LetterM = refl
at_place LetterB = refl
at_place LetterU = refl
at_place LetterV = refl
at_place LetterW = refl
at_place G66 = refl
at_place G73 = refl

-- kinds at one place are the same
same : (k l : Kind) → place k ≡ place l → k ≡ l
same k l e = sym (at_place k) ∙ ap (λ (n : ℕ). get_or kinds n Lone) e ∙ at_place l

-- what f gives for a kind that is one of several, where it gives the same for all of them
pub alike : {A : Type 0} (f : Kind → A) {a : A} (k : Kind) (ks : List Kind) → map f ks ≡ map (λ (l : Kind). a) ks → OneOf (places ks) (place k) → f k ≡ a
alike f k [] e h = absurd h
alike f k (l ∷ []) e h = cc (same k l h)
alike f k (l ∷ l₁ ∷ ls) e (inl h) = cc (same k l h)
alike f {a} k (l ∷ l₁ ∷ ls) e (inr h) = let rest : map f (l₁ ∷ ls) ≡ map (λ (m : Kind). a) (l₁ ∷ ls) = cc in alike f k (l₁ ∷ ls) rest h

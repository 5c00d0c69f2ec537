-- Laws of what is accepted: a refusal is none, and what two things one after the other say of each.
use Rattle.std.specs.Prelude.{Result, Err, Ok}
use mathlib.Core.Path.{◌≡◌, refl, sym, ap, ◌∙◌}
use mathlib.Core.Bool.{Bool, true, false}
use mathlib.Core.List.{List, ◌++◌, append_assoc}
use Prim.Native.Nat.{ℕ}
use Rattle.aries.specs.declared.refusal.Refusal.{Refusal}
use Rattle.aries.specs.Outcome.{Out, ◌>>=◌, need}
use Rattle.aries.specs.declared.entry.Entry.{Entry}
use Rattle.aries.specs.Entries.{Made, adding, and_then}

pub err≢ok : {A E : Type 0} (e : E) (a : A) → ◌≡◌ {A = Result A E} (Err e) (Ok a) → ⊥
err≢ok e a is = cc

pub ok_injective : {A E : Type 0} (a b : A) → ◌≡◌ {A = Result A E} (Ok a) (Ok b) → a ≡ b
ok_injective a b e = cc

pub err_injective : {A E : Type 0} (e r : E) → ◌≡◌ {A = Result A E} (Err e) (Err r) → e ≡ r
err_injective e r is = cc

-- one thing and another, and then a third
pub >>=-assoc : {A B C : Type 0} (x : Out A) (f : A → Out B) (g : B → Out C) → ◌>>=◌ (◌>>=◌ x f) g ≡ ◌>>=◌ x (λ a. ◌>>=◌ (f a) g)
>>=-assoc (Ok a) f g = refl
>>=-assoc (Err e) f g = refl

-- what goes on past a test has passed it
pub need_accepted :
    {A : Type 0} (t : Bool) (refusal : Refusal) (line : ℕ) (x : Out A) (a : A) → ◌>>=◌ (need t refusal line) (λ _. x) ≡ Ok a → (t ≡ true) × (x ≡ Ok a)
need_accepted true refusal line x a e = (refl, e)
need_accepted false refusal line x a e = absurd (err≢ok (record { refusal = refusal; line = line }) a e)

-- the first was accepted, and then the second: its entries come after, and what it leaves is left
pub record Both {A : Type 0} (x : Out (Made A)) (f : A → Out (Made A)) (m : Made A) : Type 0 where
  pub first : Made A
  pub second : Made A
  pub first_is : x ≡ Ok first
  pub second_is : f first.after ≡ Ok second
  pub entries_are : m.entries ≡ first.entries ++ second.entries
  pub after_is : m.after ≡ second.after

pub then_accepted : {A : Type 0} (x : Out (Made A)) (f : A → Out (Made A)) (m : Made A) → and_then x f ≡ Ok m → Both x f m
then_accepted (Err r) f m e = absurd (err≢ok r m e)
then_accepted {A} (Ok k) f m e = go (f k.after) refl e
  where
    go : (y : Out (Made A)) → f k.after ≡ y → adding k.entries y ≡ Ok m → Both (Ok k) f m
    go (Err e) p q = absurd (err≢ok e m q)
    go (Ok r) p q =
        let d : record { entries = k.entries ++ r.entries; after = r.after } ≡ m = ok_injective _ _ q in
        record {
          first = k;
          second = r;
          first_is = refl;
          second_is = p;
          entries_are = sym (ap (λ (z : Made A). z.entries) d);
          after_is = sym (ap (λ (z : Made A). z.after) d);
        }

-- and back: two accepted ones make an accepted one
pub accepted_then : {A : Type 0} (x : Out (Made A)) (f : A → Out (Made A)) (k r : Made A) → x ≡ Ok k → f k.after ≡ Ok r → and_then x f ≡ Ok (record { entries = k.entries ++ r.entries; after = r.after })
accepted_then x f k r e g = ap (λ (y : Out (Made _)). and_then y f) e ∙ ap (adding k.entries) g

-- entries, and then one thing after the other
pub adding_then : {A : Type 0} (es : List Entry) (x : Out (Made A)) (k : A → Out (Made A)) → adding es (and_then x k) ≡ and_then (adding es x) k
adding_then es (Err e) k = refl
adding_then {A} es (Ok m) k = go (k m.after)
  where
    go : (y : Out (Made A)) → adding es (adding m.entries y) ≡ adding (es ++ m.entries) y
    go (Err e) = refl
    go (Ok n) = ap (λ (l : List Entry). Ok (record { entries = l; after = n.after })) (sym (append_assoc es m.entries n.entries))

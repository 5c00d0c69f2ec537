-- At setting 1 the words are left (`hundredths-written`), and nothing is limited.
use mathlib.Core.Path.{refl, sym, ap, ◌∙◌}
use Rattle.aries.specs.ByLetter.{Letters}
use Rattle.aries.specs.Numbers.{in_hundredths, lengths_fit}
use Rattle.aries.proofs.Settings.{hundredths-written}
use Rattle.lengths.specs.Hundredths.{is_apart}
use Rattle.lengths.proofs.Hundredths.{kinds_apart}
use Rattle.lengths.proofs.to_hundredths.Goals as goal

pub returns-in-Hundredths : goal.returns-in-Hundredths
unfolding lengths_fit
returns-in-Hundredths c =
    let w = c.args.words.now in
    rw c.in-Hundredths.is
    (record { put = ap (λ (l : Letters). record { letters = l; code = w.code; measure = w.measure }) (sym (hundredths-written c.args.kind w.letters)); near = refl })

pub all_to_hundredths-requires : goal.all_to_hundredths-requires
all_to_hundredths-requires c = record { apart = ap is_apart c.lengths_of.ensures ∙ kinds_apart c.args.kind; sized = c.requires }

pub returns-in-Millimetres : goal.returns-in-Millimetres
unfolding in_hundredths lengths_fit
returns-in-Millimetres c = rw (c.in-Millimetres.is, ← c.lengths_of.ensures) (record { put = c.all_to_hundredths.ensures.put; near = c.all_to_hundredths.ensures.near })

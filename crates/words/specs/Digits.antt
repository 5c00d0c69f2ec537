-- Digits as the code holds them.
use Rattle.aries.specs.Words.{Digits}
use Rattle.words.specs.declared.digits.Digits as code

abbrev pub Held : Type 0
Held = code.Digits

abbrev pub held : Digits → Held
held d = record { value = d.value; count = d.count }

abbrev pub meant : Held → Digits
meant d = record { value = d.value; count = d.count }

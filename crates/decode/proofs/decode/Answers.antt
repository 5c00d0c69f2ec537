-- The words are read, judged, and the block of their kind is made from them (`LineWords`); they end where the line does.
use Rattle.std.specs.Prelude.{Some, Ok, Err}
use borrow.Author.Rules.{rules}
use mathlib.Core.Path.{◌≡◌, sym, ap, ap₂, ◌∙◌}
use mathlib.Core.List.{List}
use Prim.Native.Nat.{ℕ, ◌+◌}
use Rattle.aries.specs.declared.block.Block.{Block}
use Rattle.aries.specs.Words.{LetterWord, formed_words, words}
use Rattle.aries.specs.ByLetter.{Letters}
use Rattle.aries.specs.Blocks.{decoded, decode}
use Rattle.text.specs.Lines.{line_at, line_end}
use Rattle.words.specs.declared.Line.{Line}
use Rattle.words.specs.Line.{line_of}
use Rattle.words.proofs.FirstLine.{line-length}
use Rattle.words.proofs.Gathering.{AllFormed, front_formed, ended_ok, ended_err}
use Rattle.lengths.proofs.Sized.{by_letter_sized}
use Rattle.blocks.specs.Decoding.{judged_of, line_left}
use Rattle.decode.proofs.Decoding.{read_formed, read_malformed}
use Rattle.decode.proofs.LineWords.{instruction_by, judged_decodes, judged-ranged}
use Rattle.decode.proofs.decode.Goals.{After-judge, After-read, In_ok-end}
use Rattle.decode.proofs.decode.Goals as goal

-- the line at the place, and its words
module _ (c : After-read) where
  abbrev line : List ℕ
  line = line_at c.args.text.now c.args.at

  abbrev ws : List LetterWord
  ws = formed_words line

  formed : AllFormed ws
  formed = front_formed _ line

pub returns-in_err-end : goal.returns-in_err-end
unfolding decode
returns-in_err-end c =
    let r = (goal.at.returns-in_err-end c).After-read in
    let x = c.in_err-end.field-0.0 in
    let told = read_malformed c.read.result c.map_err.result x c.map_err.ensures.cases (λ m y q. search rules) c.in_err-end.was in
    let e : c.from_residual.result ≡ Err x = search rules in
    rw (e, told.2, ended_err c.args.at (line r) told.0 (sym c.read.ensures.end ∙ told.1))

-- all words have their form
module _ (c : In_ok-end) where
  ended : (words (line_at c.args.text.now c.args.at) ≡ Some (formed_words (line_at c.args.text.now c.args.at))) × (c.in_ok-end.end ≡ line_end c.args.text.now c.args.at)
  ended =
      let was = read_formed _ c.read.result c.map_err.result c.in_ok-end.end c.map_err.ensures.cases c.in_ok-end.was in
      let e = ended_ok c.args.at (line_at c.args.text.now c.args.at) c.in_ok-end.end (sym c.read.ensures.end ∙ was) in
      (e.0, e.1 ∙ ap (λ (n : ℕ). c.args.at + n) (line-length _))

pub judge-requires : goal.judge-requires
unfolding line_of
judge-requires c =
    let r = (goal.at.judge-requires c).After-read in
    rw c.read.ensures.words (by_letter_sized (ws r) (formed r))

-- they are judged, and their lengths and angles are in hundredths
module _ (c : After-judge) where
  abbrev here : List LetterWord
  here = formed_words (line_at c.args.text.now c.args.at)

  abbrev left : Letters
  left = c.judge.new.line.words.letters

  left-is : left ≡ (line_left c.args.reader (line_of here)).words.letters
  left-is = ap (λ (l : Line). l.words.letters) (c.judge.ensures.left ∙ ap (line_left c.args.reader) c.read.ensures.words)

  judged-is : c.judge.result ≡ judged_of c.args.reader (line_of here)
  judged-is = c.judge.ensures.value ∙ ap (judged_of c.args.reader) c.read.ensures.words

  -- so the line is decoded
  decodes : words (line_at c.args.text.now c.args.at) ≡ Some here → decode c.args.reader (line_at c.args.text.now c.args.at) ≡ instruction_by left c.judge.result
  unfolding decode
  decodes e =
      ap (decoded c.args.reader) e
      ∙ judged_decodes c.args.reader here (front_formed _ (line_at c.args.text.now c.args.at))
      ∙ ap₂ instruction_by (sym left-is) (sym judged-is)

pub block_of-block-requires : goal.block_of-block-requires
block_of-block-requires c =
    let g = goal.at.block_of-block-requires c in
    let j = g.After-judge in
    let r = g.After-read in
    let ranged = judged-ranged c.args.reader (ws r) (formed r) c.in_ok-kind.kind c.in_ok-kind.measure (sym (judged-is j) ∙ c.in_ok-kind.was) in
    rw (left-is j) (record { sized = ranged.0; ranged = ranged.1 })

pub returns : goal.returns
returns c =
    let g = goal.at.returns c in
    let j = g.After-judge in
    let e = ended g.In_ok-end in
    rw (decodes j e.0 ∙ ap (instruction_by (left j)) c.in_ok-kind.was)
    (ap₂ (λ (b : Block) (n : ℕ). Ok (record { measure = c.in_ok-kind.measure; block = b }, n)) c.block_of-block.ensures e.1)

pub returns-in_err-kind : goal.returns-in_err-kind
returns-in_err-kind c =
    let g = goal.at.returns-in_err-kind c in
    let j = g.After-judge in
    rw (decodes j (ended g.In_ok-end).0 ∙ ap (instruction_by (left j)) c.in_err-kind.was) (search rules)

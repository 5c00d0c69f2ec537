use Rattle.std.proofs.Common.{sym}
use Rattle.text.proofs.Lines.{count_feeds_lines}
use Rattle.text.proofs.count_lines.Goals as goal

pub returns : goal.returns
returns c = rw (c.count_feeds.ensures, c.from.ensures, c.ends_open.ensures) (sym (count_feeds_lines c.args.text.now))

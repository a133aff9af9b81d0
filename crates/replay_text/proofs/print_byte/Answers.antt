use Rattle.std.proofs.Common.{false}
use Rattle.std.proofs.lemmas.Fmt.{hex_byte}
use Rattle.replay_text.proofs.print_byte.Goals as goal

pub returns : goal.returns
returns g c = rw (c.laid_out.ensures, c.in_radix.ensures, hex_byte false c.args.b c.ranges.b.fits) at c.write.ensures.bytes

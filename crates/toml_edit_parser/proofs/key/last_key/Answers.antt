-- The last key of a path.
use Rattle.toml_edit_parser.proofs.key.last_key.Goals as goal

pub returns-clause-key : goal.returns-clause-key
returns-clause-key c = cc

pub returns-clause-fits : goal.returns-clause-fits
returns-clause-fits c =
    λ t own prefix suffix before.
    rw (c.spanned.ensures, c.new-leaf.ensures, c.new-dotted.ensures, c.default.ensures)
    ((own.start, own.end, own.order), (c.raw.ensures.fits t prefix, c.raw-2.ensures.fits t suffix), (c.raw-3.ensures.fits t before, tt))

-- A key that a path passes through.
use Rattle.toml_edit_parser.proofs.key.passed_key.Goals as goal

pub returns-clause-key : goal.returns-clause-key
returns-clause-key c = cc

pub returns-clause-fits : goal.returns-clause-fits
returns-clause-fits c =
    λ t own before after.
    rw (c.spanned.ensures, c.default.ensures, c.new-dotted.ensures)
    ((own.start, own.end, own.order), (tt, tt), (c.raw.ensures.fits t before, c.raw-2.ensures.fits t after))

-- The headline is what its two halves promise.
use Rattle.toml_edit.proofs.promise.headline.Goals as goal

pub returns : goal.returns
returns c = record {
  read = c.read_and_print.ensures.read;
  every = c.read_and_print.ensures.every;
  fits = c.print_if_fits.ensures.fits;
  prints = c.print_if_fits.ensures.prints;
}

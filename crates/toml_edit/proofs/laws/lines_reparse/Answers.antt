-- Stated in `LinesReparse`.
use Rattle.toml_edit.proofs.LinesParsed.{array-read, inserted-is-read, only-read, parsed-anywhere, parsed-as-one, removed-is-read}
use Rattle.toml_edit.proofs.laws.lines_reparse.Goals as goal

pub returns : goal.returns
returns c =
    record {
      values = parsed-as-one;
      places = parsed-anywhere;
      arrays = λ mode f ns ps r. (array-read mode f ns ps r, only-read mode f ns ps r);
      inserted = inserted-is-read;
      removed = removed-is-read;
    }

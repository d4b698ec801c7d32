-- The command is what the words after those of the reading say.
use Rattle.std.proofs.Common.{map, string_bytes}
use Rattle.toml_edit_files.specs.Edited.{version_by}
use Rattle.toml_edit_files.specs.Requests.{IsNoCommand, IsNoRequest}
use Rattle.toml_edit_files.specs.Stops.{reason_of}
use Rattle.toml_edit_files.proofs.RequestLaws.{no-request, says-request}
use Rattle.toml_edit_files.proofs.SplitLaws.{mistaken-for}
use Rattle.toml_edit_files.proofs.request.request_of.Goals as goal

pub returns-in-Ok-clause-says : goal.returns-in-Ok-clause-says
returns-in-Ok-clause-says c =
    says-request (map string_bytes c.args.words.now) c.reading_of.result.0 (map string_bytes c.reading_of.result.1.now) c.reading_of.ensures
    c.in-Ok.command c.in-Ok.ensures.says

pub returns-in-Err-clause-stops : goal.returns-in-Err-clause-stops
returns-in-Err-clause-stops c =
    let reading = c.reading_of.result.0 in let ws = map string_bytes c.args.words.now in let rest = map string_bytes c.reading_of.result.1.now in
    mistaken-for (IsNoCommand (version_by reading) rest) (IsNoRequest ws) (reason_of c.in-Err.stop) (no-request ws reading rest c.reading_of.ensures)
    c.in-Err.ensures.stops

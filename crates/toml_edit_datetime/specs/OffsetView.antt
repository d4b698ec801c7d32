-- What an offset says.
use Rattle.toml_edit_model.specs.Scalars.{Offset as OffsetData, zulu, shift}
use Rattle.toml_edit_datetime.specs.declared.datetime.Offset.{Offset}
use Rattle.toml_edit_datetime.specs.declared.datetime.Offset.TheVariants.{Z, Custom}

abbrev pub offset_view : Offset → OffsetData
offset_view Z = zulu
offset_view (Custom minutes) = shift minutes

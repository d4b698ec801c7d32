mod FilledLaws
mod ShownLaws
mod StripBytes
mod StripFields
mod StripNames
mod StripRows

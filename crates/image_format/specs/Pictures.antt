-- What was read of an image, as the image that it is.
use Rattle.std.specs.Prelude.{List, map}
use Rattle.arrayvec.specs.ArrayVec.{ArrayVec}
use Rattle.viewer_tracks.specs.Viewers.{Entry}
use Rattle.image_format.specs.declared.picture.Stretch.{Stretch}
use Rattle.image_format.specs.declared.picture.Picture.{Picture}
use Rattle.image_format.specs.Image.{Image}

abbrev pub entry_of_stretch : Stretch → Entry
entry_of_stretch s = record { viewer = s.viewer; height = s.height }

abbrev pub track_of_stretches : ArrayVec Stretch → List Entry
track_of_stretches track = map entry_of_stretch track.items

abbrev pub stack_of_stretches : List (ArrayVec Stretch) → List (List Entry)
stack_of_stretches stack = map track_of_stretches stack

abbrev pub pictured : Picture → Image
pictured p = record {
  look = p.look;
  pattern = p.pattern.items;
  marker = p.marker;
  texts = p.texts.entries;
  files = p.files.entries;
  copied = p.copied;
  deleted = p.deleted;
  viewers = p.viewers.items;
  user = stack_of_stretches p.user.items;
  system = stack_of_stretches p.system.items;
  closed = p.closed;
}

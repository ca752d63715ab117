use Rattle.image_format.proofs.Images.{whole_takes, whole_again}
use Rattle.image_format.proofs.laws.images_are_read.Goals as goal

pub returns : goal.returns
returns c = λ version written bytes i small. (
  whole_takes version written bytes i small,
  λ is. whole_again version written bytes i small is.0 is.1,
)

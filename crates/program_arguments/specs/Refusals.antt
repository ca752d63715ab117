-- Why the arguments of a program name no order.
use Rattle.std_io.specs.declared.io.kind.ErrorKind.{ErrorKind}
use Rattle.std_io.specs.declared.io.kind.ErrorKind.TheVariants as host
use Rattle.clap.specs.declared.error.kind.ErrorKind.{ErrorKind as ParseErrorKind}
use Rattle.clap.specs.declared.error.kind.ErrorKind.TheVariants as parse
use Rattle.program_arguments.specs.declared.refusal.Refusal.{Refusal}
use Rattle.program_arguments.specs.declared.refusal.Refusal.TheVariants.{Usage, Memory}

-- where the host doesn't tell the words
abbrev pub refusal_of_host : ErrorKind → Refusal
refusal_of_host host.OutOfMemory = Memory
refusal_of_host _ = Usage

-- where the words don't fit the program
abbrev pub refusal_of_words : ParseErrorKind → Refusal
refusal_of_words parse.OutOfMemory = Memory
refusal_of_words _ = Usage

-- What a writer has taken of a text, and what a call promises that sends one, for the crates above.
pub use Rattle.byte_streams.specs.Sent.{AppendsFront, Sends}

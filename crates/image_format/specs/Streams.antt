-- What calls do that take bytes from a source or put bytes into a sink.
use Rattle.std.specs.Prelude.{◌≡◌, ◌-◌, ℕ, List, [], ◌∷◌, ◌++◌, Option, Some, None, Result, Ok, Err, OnOk, IfOk, IfSome}
use Rattle.sector_disk.specs.Faults.{FailsAs, OneOf}
use Rattle.sector_disk.specs.Trail.{CountsFault}
use Rattle.event_bytes.specs.Parts.{Reader}
use Rattle.image_format.specs.declared.fault.ImageFault.{ImageFault}
use Rattle.image_format.specs.declared.fault.ImageFault.TheVariants.{Damaged, Fault, NoMemory}
use Rattle.image_format.specs.declared.source.ByteSource.{Ghosts as SourceGhosts}
use Rattle.image_format.specs.declared.sink.ByteSink.{Ghosts as SinkGhosts}
use Rattle.image_format.specs.Passing.{OnlyGets}

-- why an image isn't read
abbrev pub IsImageFault : ImageFault → Type 0
IsImageFault = OneOf (Damaged ∷ Fault ∷ NoMemory ∷ [])

-- What a call returned, as `view` shows it, and the bytes that it left are what reading gives. Damaged: reading gives
-- nothing.
abbrev pub Gives : {X Y : Type 0} → (X → Y) → Result X ImageFault → List ℕ → Option (Y × List ℕ)
    → Type 0
Gives view (Ok x) rest read = read ≡ Some (view x, rest)
Gives view (Err Damaged) rest read = read ≡ None
Gives view (Err Fault) rest read = Unit {0}
Gives view (Err NoMemory) rest read = Unit {0}

-- A call that reads from a source.
pub record Reads {S X Y : Type 0} (s : SourceGhosts S) (view : X → Y) (result : Result X ImageFault)
    (read : Reader Y)
    (old new : S) : Type 0
  where
    -- where the source is honest it returned what reading gives
    pub gives : s.honest old → Gives view result (s.remaining new) (read (s.remaining old))
    pub only : OnlyGets s.honest s.same_ground old new
    pub faults : FailsAs Fault IsImageFault result (s.failures old) (s.failures new)

-- A call that reads from a source what fits.
pub record ReadsFit {S X Y : Type 0} (s : SourceGhosts S) (view : X → Y)
    (result : Result X ImageFault)
    (read : Reader Y) (Fits : Y → Type 0) (old new : S) : Type 0
  where
    pub reads : Reads s view result read old new
    pub fits : IfOk result (λ x. Fits (view x))

-- A call that reads from a source what fits into the room. So much room as it takes isn't left afterwards.
pub record ReadsWithin {S X Y : Type 0} (s : SourceGhosts S) (view : X → Y)
    (result : Result X ImageFault)
    (read : Reader Y) (Fits : Y → Type 0) (size : Y → ℕ) (room room' : ℕ) (old new : S) : Type 0
  where
    pub reads : Reads s view result read old new
    pub fits : IfOk result (λ x. Fits (view x))
    pub left : IfOk result (λ x. room' ≡ room - size (view x))

-- what is there has this
abbrev pub IfThere : {X : Type 0} → (X → Type 0) → Option X → Type 0
IfThere Has value = IfSome value Has

-- A call that puts bytes into a sink.
pub record Puts {K X E : Type 0} (k : SinkGhosts K) (result : Result X E) (bytes : List ℕ)
    (old new : K) : Type 0 where
  -- they stand after those that were put before
  pub put : OnOk result ((before : List ℕ) → k.has_put old before → k.has_put new (before ++ bytes))
  pub stands : k.same_ground old new
  pub cause : CountsFault result (k.failures old) (k.failures new)

-- A call that puts the first of some bytes, none perhaps, and leaves the others.
pub record PutsFront {K X E : Type 0} (k : SinkGhosts K) (result : Result X E)
    (before after : List ℕ)
    (old new : K) : Type 0 where
  pub taken : List ℕ
  pub puts : Puts k result taken old new
  pub left : OnOk result (before ≡ taken ++ after)

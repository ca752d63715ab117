-- Reading one part after another.
use Rattle.std.proofs.Common.{◌≡◌, ℕ, List, Option, Some, None, Result, Ok, Err, sym, subst, ◌∙◌, arith}
use Rattle.event_bytes.specs.Parts.{Reader}
use Rattle.image_format.specs.declared.fault.ImageFault.{ImageFault}
use Rattle.image_format.specs.declared.fault.ImageFault.TheVariants.{Damaged, Fault, NoMemory}
use Rattle.image_format.specs.declared.source.ByteSource.{Ghosts as SourceGhosts}
use Rattle.image_format.specs.Streams.{Reads, Gives}
use Rattle.image_format.proofs.Loop.{err_of}

gone : {X Y Z W : Type 0} (e : ImageFault) (view : X → Y) (all : Z → W) (rest : List ℕ) (part : Option (Y × List ℕ))
    (whole : Option (W × List ℕ)) → (part ≡ None → whole ≡ None) → Gives view (Err e) rest part
    → Gives all (Err e) rest whole
gone Damaged view all rest part whole is gives = is gives
gone Fault view all rest part whole is gives = tt
gone NoMemory view all rest part whole is gives = tt

module _ {S : Type 0} {s : SourceGhosts S} where
  -- a part was read, and what follows it: this is the whole
  pub follows_on : {X Y Z W : Type 0} {view : X → Y} {x : X} {read : Reader Y} {all : Z → W}
      {result : Result Z ImageFault}
      {rest : Reader W} {old mid new : S}
      → ((a b c : S) → s.same_ground a b → s.same_ground b c → s.same_ground a c) → (whole : Reader W)
      → Reads s view (Ok x) read old mid
      → ((bytes after : List ℕ) → read bytes ≡ Some (view x, after) → whole bytes ≡ rest after)
      → Reads s all result rest mid new → Reads s all result whole old new
  follows_on {X} {Y} {Z} {W} {view} {x} {read} {all} {result} {rest} {old} {mid} {new} through whole part is others =
      record {
        gives = λ h. subst (λ r. Gives all result (s.remaining new) r)
            (sym (is (s.remaining old) (s.remaining mid) (part.gives h))) (others.gives (part.only.still h));
        only = record {
          still = λ h. others.only.still (part.only.still h);
          stands = through old mid new part.only.stands others.only.stands;
        };
        faults = record {
          rose = λ failed. omega (arith, others.faults.rose failed, part.faults.calm (λ is. absurd cc));
          calm = λ not. others.faults.calm not ∙ part.faults.calm (λ is. absurd cc);
          errors = others.faults.errors;
        };
      }

  -- a part was not read, and so the whole isn't
  pub fails : {X Y Z W : Type 0} {view : X → Y} {read : Reader Y} {e : ImageFault} {old new : S}
      → (all : Z → W) (whole : Reader W) → Reads s view (Err e) read old new
      → ((bytes : List ℕ) → read bytes ≡ None → whole bytes ≡ None) → Reads s all (Err e) whole old new
  fails {X} {Y} {Z} {W} {view} {read} {e} {old} {new} all whole part is = record {
    gives = λ h. gone e view all (s.remaining new) (read (s.remaining old)) (whole (s.remaining old))
        (is (s.remaining old)) (part.gives h);
    only = part.only;
    faults = record {
      rose = λ failed. part.faults.rose (err_of X Z e Fault failed);
      calm = λ not. part.faults.calm (λ failed. not (err_of Z X e Fault failed));
      errors = part.faults.errors;
    };
  }

  -- the last part was read, and makes the whole
  pub makes : {X Y Z W : Type 0} {view : X → Y} {x : X} {read : Reader Y} {old new : S}
      → (all : Z → W) (z : Z) (whole : Reader W) → Reads s view (Ok x) read old new
      → ((bytes after : List ℕ) → read bytes ≡ Some (view x, after) → whole bytes ≡ Some (all z, after))
      → Reads s all (Ok z) whole old new
  makes {X} {Y} {Z} {W} {view} {x} {read} {old} {new} all z whole part is = record {
    gives = λ h. is (s.remaining old) (s.remaining new) (part.gives h);
    only = part.only;
    faults = record { rose = λ failed. absurd cc; calm = λ not. part.faults.calm (λ is. absurd cc); errors = tt };
  }

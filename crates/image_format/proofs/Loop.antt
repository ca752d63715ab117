-- Reading one item after another, as a loop does.
use Rattle.std.proofs.Common.{◌≡◌, ℕ, suc, ◌-◌, ◌+◌, ◌≤◌, ◌<◌, List, [], ◌∷◌, ◌++◌, length, Option, Some, None, Result}
use Rattle.std.proofs.Common.{Ok, Err, IsErrAnd, inr, refl, sym, ap, subst, ◌∙◌, append_assoc, append-nil}
use Rattle.std.proofs.Common.{length-append, arith}
use Rattle.event_bytes.specs.Parts.{Reader, ◌>>=◌}
use Rattle.image_format.specs.declared.fault.ImageFault.{ImageFault}
use Rattle.image_format.specs.declared.fault.ImageFault.TheVariants.{Damaged, Fault, NoMemory}
use Rattle.image_format.specs.declared.source.ByteSource.{Ghosts as SourceGhosts}
use Rattle.image_format.specs.Fitting.{Chain}
use Rattle.image_format.specs.Passing.{OnlyGets}
use Rattle.image_format.specs.Reading.{times}
use Rattle.image_format.specs.Steps.{ReadsItems}
use Rattle.image_format.specs.Streams.{Reads, Gives}

-- what was read before, and what is still read
abbrev pub with_front : {A : Type 0} → List A → Option (List A × List ℕ) → Option (List A × List ℕ)
with_front front read = read >>= λ x. Some (front ++ x.0, x.1)

-- What a loop that reads so many items knows before the i-th: those before it, and what they leave.
pub record IsAt {S T A : Type 0} (s : SourceGhosts S) (item : T → Reader A) (Fits : T → A → Type 0) (next : T → A → T)
    (count i : ℕ) (first now : T) (front : List A) (old new : S) : Type 0
  where
    pub so_far : s.honest old → with_front front (times item next (count - i) now (s.remaining new))
        ≡ times item next count first (s.remaining old)
    pub fits : (rest : List A) → Chain Fits next now rest → Chain Fits next first (front ++ rest)
    pub many : length front ≡ i
    pub within : i ≤ count
    pub only : OnlyGets s.honest s.same_ground old new
    pub calm : s.failures new ≡ s.failures old

no_front : {A : Type 0} (read : Option (List A × List ℕ)) → with_front [] read ≡ read
no_front (Some x) = refl
no_front None = refl

regroup : {A : Type 0} (front : List A) (x : A) (read : Option (List A × List ℕ))
    → with_front front (read >>= λ y. Some (x ∷ y.0, y.1)) ≡ with_front (front ++ x ∷ []) read
regroup {A} front x (Some y) = ap (λ (xs : List A). Some (xs, y.1)) (sym (append_assoc front (x ∷ []) y.0))
regroup front x None = refl

one_less : (count i : ℕ) → i < count → count - i ≡ suc (count - (i + 1))
one_less count i lt = omega (arith, lt)

abbrev pub failed : (X : Type 0) → ImageFault → Result X ImageFault
failed X e = Err e

-- an error is the same, whatever the call would have returned
pub err_of : (X Y : Type 0) (e f : ImageFault) → failed Y e ≡ failed Y f → failed X e ≡ failed X f
err_of X Y e f is = cc

-- the list readers alone
module _ {T A : Type 0} (item : T → Reader A) (next : T → A → T) (count i : ℕ) (now : T) (front : List A) where
  -- what was read, and an item more
  abbrev one_more : Option (A × List ℕ) → Option (List A × List ℕ)
  one_more read = with_front front
      (read >>= λ y. times item next (count - (i + 1)) (next now y.0) y.1 >>= λ ys. Some (y.0 ∷ ys.0, ys.1))

  opened : (bytes : List ℕ) → i < count → with_front front (times item next (count - i) now bytes)
      ≡ one_more (item now bytes)
  unfolding times
  opened bytes lt = ap (λ n. with_front front (times item next n now bytes)) (one_less count i lt)

  ended : {X Y : Type 0} (e : ImageFault) (view : X → A) (all : Y → List A) (bytes rest : List ℕ)
      (whole : Option (List A × List ℕ)) → i < count → Gives view (Err e) rest (item now bytes)
      → with_front front (times item next (count - i) now bytes) ≡ whole → Gives all (Err e) rest whole
  ended Damaged view all bytes rest whole lt gives so_far = sym so_far ∙ opened bytes lt ∙ ap one_more gives
  ended Fault view all bytes rest whole lt gives so_far = tt
  ended NoMemory view all bytes rest whole lt gives so_far = tt

module _ {S T A : Type 0} {s : SourceGhosts S} {item : T → Reader A} {Fits : T → A → Type 0} {next : T → A → T}
    {count : ℕ} {first : T} where
  -- before the first item
  pub begins : ((x : S) → s.same_ground x x) → (old : S) (front : List A) → front ≡ []
      → IsAt s item Fits next count 0 first first front old old
  begins ground_self old front none = subst (λ f. IsAt s item Fits next count 0 first first f old old) (sym none)
      (record {
        so_far = λ h. let all : count - 0 ≡ count = omega arith in
            ap (λ n. with_front [] (times item next n first (s.remaining old))) all
            ∙ no_front (times item next count first (s.remaining old));
        fits = λ rest fits. fits;
        many = refl;
        within = omega arith;
        only = record { still = λ h. h; stands = ground_self old };
        calm = refl;
      })

  module _ {i : ℕ} {now : T} {front : List A} where
    module _ (ground_through : (a b c : S) → s.same_ground a b → s.same_ground b c → s.same_ground a c)
        {old mid new : S} (at : IsAt s item Fits next count i first now front old mid) where
      both : OnlyGets s.honest s.same_ground mid new → OnlyGets s.honest s.same_ground old new
      both only = record {
        still = λ h. only.still (at.only.still h);
        stands = ground_through old mid new at.only.stands only.stands;
      }

      -- an item more
      pub goes_on : {X : Type 0} (view : X → A) (x : X) → i < count → Reads s view (Ok x) (item now) mid new
          → Fits now (view x)
          → IsAt s item Fits next count (i + 1) first (next now (view x)) (front ++ view x ∷ []) old new
      goes_on view x lt reads fits = record {
        so_far = λ h. sym (opened item next count i now front (s.remaining mid) lt
            ∙ ap (one_more item next count i now front) (reads.gives (at.only.still h))
            ∙ regroup front (view x) (times item next (count - (i + 1)) (next now (view x)) (s.remaining new)))
            ∙ at.so_far h;
        fits = λ rest others. subst (Chain Fits next first) (sym (append_assoc front (view x ∷ []) rest))
            (at.fits (view x ∷ rest) (fits, others));
        many = length-append front (view x ∷ []) ∙ ap (λ n. n + 1) at.many;
        within = omega (arith, lt);
        only = both reads.only;
        calm = reads.faults.calm (λ is. absurd cc) ∙ at.calm;
      }

      -- an item that could not be read
      ends : {X Y : Type 0} (view : X → A) (all : Y → List A) (e : ImageFault) → i < count
          → Reads s view (Err e) (item now) mid new → Reads s all (Err e) (times item next count first) old new
      ends {X} {Y} view all e lt reads = record {
        gives = λ h. ended item next count i now front e view all (s.remaining mid) (s.remaining new)
            (times item next count first (s.remaining old))
            lt (reads.gives (at.only.still h)) (at.so_far h);
        only = both reads.only;
        faults = record {
          rose = λ is. omega (arith, reads.faults.rose (err_of X Y e Fault is), at.calm);
          calm = λ not. reads.faults.calm (λ is. not (err_of Y X e Fault is)) ∙ at.calm;
          errors = reads.faults.errors;
        };
      }

      pub stops : {X Y : Type 0} {view : X → A} {all : Y → List A} {e : ImageFault} {result : Result Y ImageFault}
          → IsErrAnd result (λ f. f ≡ e) → i < count → Reads s view (Err e) (item now) mid new
          → ReadsItems s all result item Fits next count first old new
      stops {view} {all} {e} {result = Ok y} is lt reads = absurd is
      stops {view} {all} {e} {result = Err f} is lt reads = subst
          (λ x. ReadsItems s all (Err x) item Fits next count first old new) (sym is)
          (record { reads = ends view all e lt reads; fits = tt; many = tt })

    module _ {old new : S} (at : IsAt s item Fits next count i first now front old new) where
      -- no memory for the items
      pub refused : {Y Z : Type 0} (all : Y → Z) (read : Reader Z) → Reads s all (Err NoMemory) read old new
      refused all read = record {
        gives = λ h. tt;
        only = at.only;
        faults = record { rose = λ is. absurd cc; calm = λ not. at.calm; errors = inr (inr refl) };
      }

      -- all that was read fits
      all_fit : Chain Fits next first front
      all_fit = subst (Chain Fits next first) (append-nil front) (at.fits [] tt)

      -- after the last item
      was_read : {Y : Type 0} (all : Y → List A) (y : Y) → count ≤ i → all y ≡ front
          → Reads s all (Ok y) (times item next count first) old new
      unfolding times
      was_read all y le is = record {
        gives = λ h. let none : count - i ≡ 0 = omega (arith, le) in sym (at.so_far h)
            ∙ ap (λ n. with_front front (times item next n now (s.remaining new))) none
            ∙ ap (λ (xs : List A). Some (xs, s.remaining new)) (append-nil front ∙ sym is);
        only = at.only;
        faults = record { rose = λ is. absurd cc; calm = λ not. at.calm; errors = tt };
      }

      pub is_done : {Y : Type 0} {all : Y → List A} {y : Y} → count ≤ i → all y ≡ front
          → ReadsItems s all (Ok y) item Fits next count first old new
      is_done {all} {y} le is = record {
        reads = was_read all y le is;
        fits = subst (Chain Fits next first) (sym is) all_fit;
        many = omega (arith, ap length is, at.many, at.within, le);
      }

-- Putting one thing after another.
use Rattle.std.proofs.Common.{◌≡◌, ℕ, ◌<◌, List, [], ◌∷◌, ◌++◌, length, Result, Ok, Err, OnOk, subst, sym, ap, ◌∙◌, arith}
use Rattle.std.specs.List.{flat_map}
use Rattle.std.proofs.lemmas.List.{append-nil, append_assoc}
use Rattle.sector_disk.specs.declared.disk.Fault.{Fault}
use Rattle.image_format.specs.declared.sink.ByteSink.{Ghosts}
use Rattle.image_format.specs.Streams.{Puts, PutsFront}
use Rattle.image_format.specs.Image.{listed_bytes}

module _ {K : Type 0} (k : Ghosts K) where
  -- bytes that are the same were put
  pub same_put : {X : Type 0} {xs ys : List ℕ} {a b : K} {r : Result X Fault} → xs ≡ ys → Puts k r xs a b
      → Puts k r ys a b
  same_put {X} {xs} {ys} {a} {b} {r} same puts = subst (λ (bytes : List ℕ). Puts k r bytes a b) same puts

  -- all of the bytes were put
  pub all_taken : {X : Type 0} {x : X} (before bytes none : List ℕ) {a b : K} → bytes ≡ before → none ≡ []
      → ((done : List ℕ) → k.has_put a done → k.has_put b (done ++ bytes)) → k.same_ground a b
      → k.failures b ≡ k.failures a → PutsFront {E = Fault} k (Ok x) before none a b
  all_taken before bytes none same empty put stands cause = record {
    taken = bytes;
    puts = record { put = put; stands = stands; cause = cause };
    left = sym (ap (λ (after : List ℕ). bytes ++ after) empty ∙ append-nil bytes ∙ same);
  }

-- what holds in any case holds where a call succeeded
pub in_any_case : {X E : Type 0} (result : Result X E) (P : Type 0) → P → OnOk result P
in_any_case (Ok _) P holds = holds
in_any_case (Err _) P holds = tt

-- What is still to be put of the whole bytes, and that all before it was put.
pub record IsLeft {K : Type 0} (k : Ghosts K) (whole rest : List ℕ) (old new : K) : Type 0 where
  pub done : List ℕ
  pub parts : whole ≡ done ++ rest
  pub puts : Puts {X = Unit {0}} {E = Fault} k (Ok tt) done old new

module _ {K : Type 0} (k : Ghosts K)
    (through : (a b c : K) → k.same_ground a b → k.same_ground b c → k.same_ground a c) where
  then_both : {X Y : Type 0} (x : X) (xs ys : List ℕ) (a b c : K) (r : Result Y Fault)
      → Puts {E = Fault} k (Ok x) xs a b → Puts k r ys b c → Puts k r (xs ++ ys) a c
  then_both x xs ys a b c (Ok y) first second = record {
    put = λ before has. subst (λ (bytes : List ℕ). k.has_put c bytes) (append_assoc before xs ys)
        (second.put (before ++ xs) (first.put before has));
    stands = through a b c first.stands second.stands;
    cause = second.cause ∙ first.cause;
  }
  then_both x xs ys a b c (Err e) first second =
      let same : k.failures b ≡ k.failures a = first.cause in
      let more : k.failures b < k.failures c = second.cause in
      record {
        put = tt;
        stands = through a b c first.stands second.stands;
        cause = omega (arith, same, more);
      }

  -- What was put, and then what another call put, or failed to put.
  pub then_put : {X Y : Type 0} {x : X} {xs ys : List ℕ} {a b c : K} {r : Result Y Fault}
      → Puts {E = Fault} k (Ok x) xs a b → Puts k r ys b c → Puts k r (xs ++ ys) a c
  then_put first second = then_both _ _ _ _ _ _ _ first second

  -- the first part was put
  pub first_put : {X : Type 0} {x : X} (whole xs rest : List ℕ) {a b : K} → whole ≡ xs ++ rest
      → Puts {E = Fault} k (Ok x) xs a b → IsLeft k whole rest a b
  first_put whole xs rest parts first = record {
    done = xs;
    parts = parts;
    puts = record { put = first.put; stands = first.stands; cause = first.cause };
  }

  -- one part more was put
  pub one_more : {X : Type 0} {x : X} (whole xs rest : List ℕ) {a b c : K} → IsLeft k whole (xs ++ rest) a b
      → Puts {E = Fault} k (Ok x) xs b c → IsLeft k whole rest a c
  one_more whole xs rest so_far next = record {
    done = so_far.done ++ xs;
    parts = so_far.parts ∙ sym (append_assoc so_far.done xs rest);
    puts = same tt (then_put so_far.puts next);
  }
    where
      same : {X : Type 0} {x : X} {bytes : List ℕ} {a b : K} (y : Unit {0}) → Puts {E = Fault} k (Ok x) bytes a b
          → Puts {E = Fault} k (Ok y) bytes a b
      same y puts = record { put = puts.put; stands = puts.stands; cause = puts.cause }

  -- before the first item the number was put
  pub number_put : {A X : Type 0} {x : X} (number : ℕ → List ℕ) (bytes : A → List ℕ) (items : List A) (n : ℕ) {a b : K}
      → length items ≡ n → Puts {E = Fault} k (Ok x) (number n) a b
      → IsLeft k (listed_bytes number bytes items) (flat_map bytes items) a b
  number_put number bytes items n long first =
      first_put (listed_bytes number bytes items) (number n) (flat_map bytes items)
      (ap (λ (m : ℕ). number m ++ flat_map bytes items) long) first

  -- the first of the items that were left was put
  pub item_put : {A X : Type 0} {x : X} (bytes : A → List ℕ) (whole : List ℕ) (items : List A) (item : A)
      (later : List A) {a b c : K} → items ≡ item ∷ later → IsLeft k whole (flat_map bytes items) a b
      → Puts {E = Fault} k (Ok x) (bytes item) b c → IsLeft k whole (flat_map bytes later) a c
  item_put {A} bytes whole items item later {a} {b} front so_far next =
      one_more whole (bytes item) (flat_map bytes later)
      (subst (λ (left : List A). IsLeft k whole (flat_map bytes left) a b) front so_far) next

  -- the first bytes of a block were put
  pub front_put : {X : Type 0} {x : X} (whole taken block rest before : List ℕ) {a b c : K} → before ≡ taken ++ block
      → IsLeft k whole (before ++ rest) a b → Puts {E = Fault} k (Ok x) taken b c → IsLeft k whole (block ++ rest) a c
  front_put whole taken block rest before {a} {b} is so_far next =
      one_more whole taken (block ++ rest)
      (subst (λ (l : List ℕ). IsLeft k whole l a b) (ap (λ (l : List ℕ). l ++ rest) is ∙ append_assoc taken block rest)
      so_far)
      next

  -- the first of the items that are left came into the block
  pub item_kept : {A : Type 0} (bytes : A → List ℕ) (whole block more : List ℕ) (items : List A) (item : A)
      (later : List A) {a b : K} → items ≡ item ∷ later → more ≡ block ++ bytes item
      → IsLeft k whole (block ++ flat_map bytes items) a b → IsLeft k whole (more ++ flat_map bytes later) a b
  item_kept {A} bytes whole block more items item later {a} {b} front is so_far =
      subst (λ (l : List ℕ). IsLeft k whole l a b)
      (ap (λ (left : List A). block ++ flat_map bytes left) front
      ∙ sym (ap (λ (l : List ℕ). l ++ flat_map bytes later) is ∙ append_assoc block (bytes item) (flat_map bytes later)))
      so_far

  -- the block was put, or not, where no item is left
  pub last_put : {A Y : Type 0} (bytes : A → List ℕ) (r : Result Y Fault) (whole block : List ℕ) (items : List A)
      {a b c : K} → items ≡ [] → IsLeft k whole (block ++ flat_map bytes items) a b → Puts k r block b c
      → Puts k r whole a c
  last_put {A} bytes r whole block items none so_far last =
      same_put k
      (sym (so_far.parts ∙ ap (λ (left : List A). so_far.done ++ (block ++ flat_map bytes left)) none
      ∙ ap (λ (l : List ℕ). so_far.done ++ l) (append-nil block)))
      (then_put so_far.puts last)

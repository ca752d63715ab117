-- A writer that takes a text in several writes.
use Rattle.std.proofs.Common.{◌≡◌, ℕ, List, [], ◌++◌, Option, take, refl, sym, ap, ◌∙◌, subst, append_assoc, append-nil}
use Rattle.std.proofs.Common.{take-append-drop, length, arith}
use Rattle.std.specs.Prelude.{Result, Ok, Err, OnOk, OnErr, IsErrAnd}
use Rattle.std.specs.List.{between}
use Rattle.std.proofs.lemmas.Slice.{between_to_end}
use Rattle.std.specs.Io.KnownBytes.{Appends, Keeps}
use Rattle.std.proofs.KnownBytes.{Appends-nil, Appends-trans, Appends-kept}
use Rattle.byte_streams.specs.Sent.{AppendsFront, Sends}

-- what a writer has taken of a text of which this rest is left
pub record HasTaken (old new : Option (List ℕ)) (text rest : List ℕ) : Type 0 where
  pub front : List ℕ
  pub parts : text ≡ front ++ rest
  pub taken : Appends old new front

pub taken_none : (old : Option (List ℕ)) (text : List ℕ) → HasTaken old old text text
taken_none old text = record { front = []; parts = refl; taken = Appends-nil old }

-- a part more
pub taken_part : (old mid new : Option (List ℕ)) (text part rest : List ℕ) → HasTaken old mid text (part ++ rest)
    → Appends mid new part → HasTaken old new text rest
taken_part old mid new text part rest before now = record {
  front = before.front ++ part;
  parts = before.parts ∙ sym (append_assoc before.front part rest);
  taken = Appends-trans old mid new before.front part before.taken now;
}

-- the first n bytes of the rest more
pub taken_more : (old mid new : Option (List ℕ)) (text rest : List ℕ) (n : ℕ) → HasTaken old mid text rest
    → Appends mid new (take n rest)
    → HasTaken old new text (between n (length rest) rest)
taken_more old mid new text rest n before now =
    let split : rest ≡ take n rest ++ between n (length rest) rest =
    sym (ap (λ l. take n rest ++ l) (between_to_end rest n (length rest) (omega arith)) ∙ take-append-drop n rest) in
    taken_part old mid new text (take n rest) (between n (length rest) rest)
    (subst (HasTaken old mid text) split before) now

pub taken_all : (old mid new : Option (List ℕ)) (text rest : List ℕ) → HasTaken old mid text rest → rest ≡ []
    → Keeps mid new → Appends old new text
taken_all old mid new text rest before none kept =
    Appends-kept old mid new text (subst (Appends old mid) (sym (before.parts ∙ ap (λ l. before.front ++ l) none
    ∙ append-nil before.front)) before.taken) kept

pub front_taken : (old mid new : Option (List ℕ)) (text rest : List ℕ) → HasTaken old mid text rest → Keeps mid new
    → AppendsFront old new text
front_taken old mid new text rest before kept = record {
  front = before.front;
  back = rest;
  parts = before.parts;
  taken = Appends-kept old mid new before.front before.taken kept;
}

-- a prefix of the next part
pub front_part : (old mid new : Option (List ℕ)) (text part rest : List ℕ) → HasTaken old mid text (part ++ rest)
    → AppendsFront mid new part → AppendsFront old new text
front_part old mid new text part rest before now = record {
  front = before.front ++ now.front;
  back = now.back ++ rest;
  parts = before.parts ∙ ap (λ l. before.front ++ l) (ap (λ l. l ++ rest) now.parts
      ∙ append_assoc now.front now.back rest)
      ∙ sym (append_assoc before.front now.front (now.back ++ rest));
  taken = Appends-trans old mid new before.front now.front before.taken now.taken;
}

-- of two parts a front of the first, or the first and a front of the second
pub first_front : (old new : Option (List ℕ)) (first second : List ℕ) → AppendsFront old new first
    → AppendsFront old new (first ++ second)
first_front old new first second now =
    front_part old old new (first ++ second) first second (taken_none old (first ++ second)) now

pub second_front : (old mid new : Option (List ℕ)) (first second : List ℕ) → Appends old mid first
    → AppendsFront mid new second → AppendsFront old new (first ++ second)
second_front old mid new first second one two = record {
  front = first ++ two.front;
  back = two.back;
  parts = ap (λ l. first ++ l) two.parts ∙ sym (append_assoc first two.front two.back);
  taken = Appends-trans old mid new first two.front one two.taken;
}

-- all of a text is a front of it, also once the writer has passed it on or couldn't
pub whole_front : (old mid new : Option (List ℕ)) (text : List ℕ) → Appends old mid text → Keeps mid new
    → AppendsFront old new text
whole_front old mid new text now kept = record {
  front = text;
  back = [];
  parts = sym (append-nil text);
  taken = Appends-kept old mid new text now kept;
}

-- A call that sends a text, by how it ends: where a part of it wasn't sent whole,
pub front_sent : {T E : Type 0} (r : Result T E) (Q : E → Type 0) (old new : Option (List ℕ)) (text : List ℕ)
    → IsErrAnd r Q → AppendsFront old new text → Sends r old new text
front_sent (Ok x) Q old new text is front = absurd is
front_sent (Err e) Q old new text is front = record { sent = tt; front = front }

-- by the second of two parts, once the first was sent,
pub then_sent : {T E : Type 0} (r : Result T E) (old mid new : Option (List ℕ)) (first second : List ℕ)
    → Appends old mid first → Sends r mid new second → Sends r old new (first ++ second)
then_sent (Ok x) old mid new first second one two = record {
  sent = Appends-trans old mid new first second one two.sent;
  front = tt;
}
then_sent (Err e) old mid new first second one two = record {
  sent = tt;
  front = second_front old mid new first second one two.front;
}

-- by passing it on,
pub whole_sent : {T E : Type 0} (r : Result T E) (old mid new : Option (List ℕ)) (text : List ℕ)
    → Appends old mid text → Keeps mid new → Sends r old new text
whole_sent (Ok x) old mid new text now kept = record { sent = Appends-kept old mid new text now kept; front = tt }
whole_sent (Err e) old mid new text now kept = record { sent = tt; front = whole_front old mid new text now kept }

-- or by a call that sends the same text in other words
pub sent_as : {T E : Type 0} (r : Result T E) (old new : Option (List ℕ)) (text same : List ℕ) → text ≡ same
    → Sends r old new text → Sends r old new same
sent_as r old new text same is sends = subst (λ t. Sends r old new t) is sends

-- what holds anyway
pub on_ok : {T E P : Type 0} (r : Result T E) → P → OnOk r P
on_ok (Ok x) p = p
on_ok (Err e) p = tt

pub on_err : {T E P : Type 0} (r : Result T E) → P → OnErr r P
on_err (Ok x) p = tt
on_err (Err e) p = p

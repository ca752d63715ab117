-- A line that comes in several pieces.
use Rattle.std.proofs.Common.{◌≡◌, ℕ, ◌+◌, ◌<◌, ◌≤◌, List, [], ◌∷◌, ◌++◌, Option, length, sym, ap, ◌∙◌}
use Rattle.std.proofs.Common.{subst, arith, append_assoc, append-nil, length-append}
use Rattle.std.specs.Io.KnownBytes.{Consumes}
use Rattle.std.proofs.KnownBytes.{Consumes-nil, Consumes-trans}
use Rattle.screen_pictures.specs.Printed.{ended_line}
use Rattle.script_lines.specs.Script.{IsLine}
use Rattle.script_lines.specs.Reading.{HoldsLine, Unplayed, TakesLine, TakesRest, most_lines, most_bytes}
use Rattle.script_lines.specs.declared.line.Line.{Line}

-- the line so far
pub record HasGathered (old now : Unplayed) (left left' : Option (List ℕ)) (held : Line) : Type 0 where
  pub front : List ℕ
  pub read : List ℕ
  pub came : Consumes left left' read
  pub plain : IsLine front
  pub parts : old.pending ++ read ≡ front ++ now.pending
  pub few : length read + most_bytes now.reads ≤ most_bytes old.reads
  pub holds : HoldsLine held front
  pub fewer : most_lines now ≤ most_lines old

pub plain_both : (front back : List ℕ) → IsLine front → IsLine back → IsLine (front ++ back)
plain_both [] back p q = q
plain_both (b ∷ front) back p q = (p.0, plain_both front back p.1 q)

pub gathered_none : (old : Unplayed) (left : Option (List ℕ)) (held : Line) → HoldsLine held []
    → HasGathered old old left left held
gathered_none old left held holds = record {
  front = [];
  read = [];
  came = Consumes-nil left;
  plain = tt;
  parts = append-nil old.pending;
  few = omega arith;
  holds = holds;
  fewer = omega arith;
}

-- a read more, which gave at most so many bytes
more_read : (mid now old before piece all : ℕ) → all ≡ before + piece → before + most_bytes mid ≤ most_bytes old
    → piece ≤ 8192 → now + 1 ≡ mid
    → all + most_bytes now ≤ most_bytes old
more_read mid now old before piece all is few most one_less = omega (arith, is, few, most, one_less)

-- No line feed stood in the pending piece, and another one was read.
pub gathered_more : (old mid now : Unplayed) (left left' left'' : Option (List ℕ)) (held held' : Line)
    → HasGathered old mid left left' held
    → IsLine mid.pending → ((before : List ℕ) → HoldsLine held before → HoldsLine held' (before ++ mid.pending))
    → Consumes left' left'' now.pending → length now.pending ≤ 8192 → now.reads + 1 ≡ mid.reads
    → most_lines now ≤ most_lines mid → HasGathered old now left left'' held'
gathered_more old mid now left left' left'' held held' before plain longer came most one_less fewer = record {
  front = before.front ++ mid.pending;
  read = before.read ++ now.pending;
  came = Consumes-trans left left' left'' before.read now.pending before.came came;
  plain = plain_both before.front mid.pending before.plain plain;
  parts = sym (append_assoc old.pending before.read now.pending) ∙ ap (λ l. l ++ now.pending) before.parts;
  few = more_read mid.reads now.reads old.reads (length before.read) (length now.pending) _
      (length-append before.read now.pending) before.few most one_less;
  holds = longer before.front before.holds;
  fewer = omega (arith, before.fewer);
}

pub line_taken : (old mid new : Unplayed) (left left' : Option (List ℕ)) (held held' : Line)
    → HasGathered old mid left left' held
    → ((front : List ℕ) × IsLine front × (mid.pending ≡ ended_line front ++ new.pending) × ((before : List ℕ)
    → HoldsLine held before → HoldsLine held' (before ++ front)))
    → new.reads ≡ mid.reads → TakesLine old new left left' held'
line_taken old mid new left left' held held' before (front, plain, parts, longer) reads = record {
  line = before.front ++ front;
  read = before.read;
  came = before.came;
  plain = plain_both before.front front before.plain plain;
  parts = before.parts ∙ ap (λ l. before.front ++ l) parts ∙ sym (append_assoc before.front (ended_line front) new.pending)
      ∙ ap (λ l. l ++ new.pending) (sym (append_assoc before.front front (10 ∷ [])));
  few = omega (arith, before.few, reads);
  holds = longer before.front before.holds;
}

-- a line that is taken leaves fewer to come
pub fewer_lines : (old mid new : Unplayed) (left left' : Option (List ℕ)) (held held' : Line)
    → HasGathered old mid left left' held
    → ((front : List ℕ) × IsLine front × (mid.pending ≡ ended_line front ++ new.pending) × ((before : List ℕ)
    → HoldsLine held before → HoldsLine held' (before ++ front)))
    → new.reads ≡ mid.reads → most_lines new < most_lines old
fewer_lines old mid new left left' held held' before (front, plain, parts, longer) reads =
    let size : length mid.pending ≡ length front + 1 + length new.pending
    = ap length parts ∙ length-append (ended_line front) new.pending
    ∙ ap (λ n. n + length new.pending) (length-append front (10 ∷ [])) in
    omega (arith, before.fewer, reads, size)

pub rest_taken : (old mid new : Unplayed) (left left' left'' : Option (List ℕ)) (held held' : Line)
    → HasGathered old mid left left' held
    → IsLine mid.pending → ((before : List ℕ) → HoldsLine held before → HoldsLine held' (before ++ mid.pending))
    → Consumes left' left'' new.pending → new.pending ≡ [] → new.reads ≤ mid.reads → TakesRest old new left left'' held'
rest_taken old mid new left left' left'' held held' before plain longer came none reads = record {
  rest = before.front ++ mid.pending;
  read = before.read;
  came = subst (Consumes left left'') (ap (λ l. before.read ++ l) none ∙ append-nil before.read)
      (Consumes-trans left left' left'' before.read new.pending before.came came);
  plain = plain_both before.front mid.pending before.plain plain;
  parts = before.parts;
  none = none;
  few = omega (arith, before.few, reads);
  holds = longer before.front before.holds;
}

-- Documents that come in leave the texts, and so the lines that are kept of them.
use Rattle.std.proofs.Common.{◌≡◌, ◌∙◌, ℕ, [], ◌∷◌, refl, sym, ap, subst, true, false}
use Rattle.desktop_definitions.specs.declared.reply.Reply.{Reply}
use Rattle.desktop_definitions.specs.Tables.{Texts}
use Rattle.desktop_definitions.specs.Words.{Text}
use Rattle.desktop_definitions.specs.Desktop.{Desktop}
use Rattle.desktop_definitions.specs.Change.{plain_text}
use Rattle.desktop_definitions.specs.Viewers.{text_of, text_in}
use Rattle.desktop_definitions.specs.Sound.{IsSound}
use Rattle.desktop_definitions.specs.Step.{Outcome, filed, fits, outcome_after, outcome_of}
use Rattle.screen_cells.specs.declared.lines.KeptLines.{KeptLines}
use Rattle.screen_cells.specs.Lines.{AreLinesOf}
use Rattle.document_filing.specs.Bringing.{Documents, all_filed, has_few_files, all_brought, brought_in}
use Rattle.document_filing.proofs.BringingLaws.{all_filed_shown, brought_many, brought_full, brought_done}

texts_filed : (d : Desktop) (documents : Documents) → (all_filed d documents).texts ≡ d.texts
unfolding all_filed filed
texts_filed d [] = refl
texts_filed d (x ∷ xs) = texts_filed (filed d x.0 (plain_text x.1)) xs

pub texts_left : (d : Desktop) (documents : Documents) → IsSound d → (brought_in d documents).desktop.texts ≡ d.texts
unfolding brought_in
texts_left d documents sound =
    let new = all_filed d documents in
    let shown = all_filed_shown d documents sound.shown in
    (elim (has_few_files new) as
    (λ b. has_few_files new ≡ b → (outcome_after d (all_brought d documents)).desktop.texts ≡ d.texts) [
      | false ↦ λ many. ap (λ (o : Outcome). o.desktop.texts) (sym (brought_many d documents many))
      | true ↦ λ few. (elim (fits new) as
          (λ b. fits new ≡ b → (outcome_after d (all_brought d documents)).desktop.texts ≡ d.texts) [
            | false ↦ λ unfit. ap (λ (o : Outcome). o.desktop.texts) (sym (brought_full d documents few shown unfit))
            | true ↦ λ fit. ap (λ (o : Outcome). o.desktop.texts) (sym (brought_done d documents few shown fit))
                ∙ texts_filed d documents
          ]) refl
    ]) refl

pub lines_left : (d new : Desktop) (documents : Documents) (reply : Reply) (lines : KeptLines) → IsSound d
    → outcome_of new reply ≡ brought_in d documents → AreLinesOf (text_of d) lines → AreLinesOf (text_of new) lines
lines_left d new documents reply lines sound is were =
    subst (λ (texts : Texts (Text ℕ)). AreLinesOf (text_in texts) lines)
    (sym (ap (λ (o : Outcome). o.desktop.texts) is ∙ texts_left d documents sound)) were

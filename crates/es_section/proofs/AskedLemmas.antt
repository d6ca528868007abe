-- What the recorder selects is the section that was asked for.
use Rattle.std.proofs.Common.{◌≡◌, ◌∙◌, ℕ, List, Option, None, Some, IfSome, sym, ap}
use Rattle.std.specs.Prelude.{option_map}
use Rattle.es_model.specs.History.{log}
use Rattle.es_model.specs.declared.event.Notification.{Notification}
use Rattle.es_model.specs.declared.event.Recording.{Recording}
use Rattle.es_recorder.specs.Selections.{notifications, select_notifications}
use Rattle.es_section.specs.Answers.{section_with, section_of, section_asked}
use Rattle.es_section.specs.Section.{bounds_of, start_of, limit_of, items_of}
use Rattle.es_section.specs.declared.answer.Section.{Section}

pub asked-told : (history : Option (List Recording)) (text : List ℕ) (first last size start limit : ℕ) (items : List Notification) (s : Section) → bounds_of text ≡ Some (first, last) → start ≡ start_of first → limit ≡ limit_of first last size
    → IfSome history (λ h. items ≡ select_notifications (log h) start limit) → s ≡ section_with limit items → IfSome history (λ h. section_asked (notifications (log h)) text size ≡ Some s)
asked-told None text first last size start limit items s asks begins few selected is = tt
asked-told (Some h) text first last size start limit items s asks begins few selected is =
    ap (option_map (λ b. section_of (notifications (log h)) b.0 b.1 size)) asks
    ∙ (λ i. Some (section_with (sym few i) (items_of (notifications (log h)) (sym begins i) (sym few i))))
    ∙ (λ i. Some (section_with limit (sym selected i)))
    ∙ ap Some (sym is)

-- For crates above: the laws of the name book, each under its name.
use Rattle.std.proofs.Common.{sym, refl, ◌∙◌}
use Rattle.names.specs.Laws.{NumbersStand, EnteringStands, PlansStand, NamesStand}
use Rattle.names.proofs.Numbers.{found_known, found_none, at_from, at_none, number_some, number_known, number_new, text_number, at_known, number_apart, number_only}
use Rattle.names.proofs.Parts.{part_some, part_none}
use Rattle.names.proofs.Books.{apart_of, most_of}
use Rattle.names.proofs.Shelves.{entered_known, entered_new, entered_again, has_entered, number_entered, number_different, text_entered, has_kept, number_kept, text_kept, apart_kept, fits_known, fits_new, planned_fits, planned_full, plan_stands, plan_both, plan_first_err, plan_second_err}

pub numbers : NumbersStand
numbers = record {
  counted = λ ts a h. (number_some ts a, number_known ts a h);
  next = number_new;
  found_known = found_known;
  found_new = λ ts a h. sym (found_none ts a h);
  read = λ ts k l h. at_from ts _ k l h refl;
  unread = at_none;
  stands = text_number;
  known = at_known;
  different = number_apart;
  only = number_only;
  once = λ ts a j k d p q. sym (number_only ts a j d p) ∙ number_only ts a k d q;
}

pub entering : EnteringStands
entering = record {
  nothing = entered_known;
  behind = entered_new;
  again = entered_again;
  known = has_entered;
  number = number_entered;
  text = text_entered;
  different = number_different;
  known_kept = has_kept;
  number_kept = number_kept;
  text_kept = text_kept;
  apart = apart_kept;
}

pub plans : PlansStand
plans = record {
  fits_known = fits_known;
  fits_new = fits_new;
  answered = planned_fits;
  refused = planned_full;
  both = plan_stands;
  both_from = λ s a b m n p q. plan_both s a b m p n q;
  not_first = plan_first_err;
  not_second = λ s a b m e p q. plan_second_err s a b m p e q;
}

pub names_stand : NamesStand
names_stand = record { numbers = numbers; entering = entering; plans = plans; words = record { part = part_some; past = part_none }; books = record { apart = apart_of; bounded = most_of } }

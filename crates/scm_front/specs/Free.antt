-- A session that hears the layer's keys: nothing is pending, no dialog is open, and its marks may be changed.
use Rattle.std.specs.Prelude.{◌≡◌, false, [], None}
use Rattle.scm_record.specs.Live.{Live}

pub record IsFree (l : Live) : Type 0 where
  pub calm : l.session.pending ≡ []
  pub closed : l.session.shown.quit_dialog ≡ None
  pub shut : l.session.shown.is_help_open ≡ false
  pub writable : l.session.shown.state.is_read_only ≡ false

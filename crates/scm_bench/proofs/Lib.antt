mod ScreenLemmas

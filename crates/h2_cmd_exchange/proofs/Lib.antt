mod ListenLaws
